-- Heap words, idle words and nobody's bits after each permitted event that is a step.
use Rattle.std.proofs.Common.{◌≡◌, ℕ, ◌<◌, Bool, true, false, ◌==◌, if◌then◌else◌, ⊎_elim, inl, inr, List, [], ◌∷◌, Option, Some, None, refl, sym, ◌∙◌, ap, subst}
use Rattle.std.specs.Prelude.{IsTrue, Contains}
use Rattle.std.specs.Int.{bit_at}
use Rattle.std.proofs.lemmas.List.Elements.{Contains-append_left, Contains-push}
use Rattle.scc_base.specs.Places.{WordAt}
use Rattle.scc_base.specs.Setups.{SetupView, IsSetup}
use Rattle.scc_base.specs.Events.{IsAccess, IsEvent}
use Rattle.scc_base.specs.declared.events.Access.{Access}
use Rattle.scc_base.specs.declared.events.Access.TheVariants.{Load, Store, Take, Free}
use Rattle.scc_base.specs.declared.events.Event.{Event}
use Rattle.scc_proto.specs.Tables.{table_with}
use Rattle.scc_proto.specs.Stages.{HeapStore, Record}
use Rattle.scc_proto.specs.Moves.{Move, LowerSignal, RaiseSignal, StoreHeap, Misplaced, heap_after, after}
use Rattle.scc_proto.specs.Permission.{permits}
use Rattle.scc_proto.specs.Words.{Memory, word_at, IsStep, IsStepBy, memory_by, memory_after, Role, SignalFlags, HeapWord, IdleWord, role_of, are_peers}
use Rattle.scc_proto.specs.Records.{act_of, store_act, raises_bit, lowered_below, move_at, change_at, flags_noted, chunk_of, after_act, permits_act, permits_by, IsPermitted, record_after}
use Rattle.scc_proto.specs.Registers.{NotedFlags}
use Rattle.scc_proto.specs.Agreement.{WasStored, WordAgrees, WordsAgree, RegistersAgree}
use Rattle.scc_proto.proofs.Tests.{same_or_other, put_here, put_there, peers_from, true_not_false}
use Rattle.scc_proto.proofs.Layouts.Roles.{if_yes, eq_is, eq_not, Stands, role_stands}
use Rattle.scc_proto.proofs.Words.FlagBits.{raises_is, lowers_is, lowered_below-is}
use Rattle.scc_proto.proofs.Layouts.ViewStores.{stored_here, stored_there, same_word}
use Rattle.scc_proto.proofs.Layouts.LayoutLaw.{noted_is, event_made}

-- ---- what was stored in the heap stays

heap_grows : (move : Move) (heap : List HeapStore) (x : HeapStore) → Contains heap x → Contains (heap_after move heap) x
heap_grows (StoreHeap place value) heap x has = Contains-append_left heap (record { place = place; value = value } ∷ []) x has
heap_grows move heap x has = has

module _ (s : SetupView) (records : ℕ → Record) (me : ℕ) (new : Record) (grows : (x : HeapStore) → Contains (records me).heap x → Contains new.heap x) where
  stored_stays : (place : WordAt) (word : ℕ) → WasStored s.nue records place word → WasStored s.nue (table_with records me new) place word
  stored_stays place word was = same_or_other (WasStored s.nue (table_with records me new) place word) was.by me
      (λ t e. record {
        by = me;
        below = subst (λ (k : ℕ). k < s.nue) e was.below;
        stored = subst (λ (r : Record). Contains r.heap (record { place = place; value = word })) (sym (put_here records me new))
            (grows (record { place = place; value = word }) (subst (λ (k : ℕ). Contains (records k).heap (record { place = place; value = word })) e was.stored));
      })
      (λ t ne. record { by = was.by; below = was.below; stored = subst (λ (r : Record). Contains r.heap (record { place = place; value = word })) (sym (put_there records me new was.by ne)) was.stored })

  word_stays : (role : Role) (place : WordAt) (word : ℕ) → WordAgrees s place word records role → WordAgrees s place word (table_with records me new) role
  word_stays HeapWord place word agrees = ⊎_elim (λ (zero : word ≡ 0). inl zero) (λ (was : WasStored s.nue records place word). inr (stored_stays place word was)) agrees
  word_stays IdleWord place word agrees = agrees
  word_stays (SignalFlags signal at) place word agrees = agrees
  word_stays role place word agrees = tt

  -- the same words
  words_stay : (memory late : Memory) → ((place : WordAt) → word_at late place ≡ word_at memory place) → WordsAgree s memory records → WordsAgree s late (table_with records me new)
  words_stay memory late same agrees place is = subst (λ (word : ℕ). WordAgrees s place word (table_with records me new) (role_of s place)) (sym (same place)) (word_stays (role_of s place) place (word_at memory place) (agrees place is))

  -- another word at one place
  word_stored : (memory : Memory) (place : WordAt) (value : ℕ) → WordAgrees s place value (table_with records me new) (role_of s place) → WordsAgree s memory records → WordsAgree s (memory_by Store place value memory) (table_with records me new)
  word_stored memory place value here agrees q is = same_word (WordAgrees s q (word_at (memory_by Store place value memory) q) (table_with records me new) (role_of s q)) place q
      (λ e. subst (λ (word : ℕ). WordAgrees s q word (table_with records me new) (role_of s q)) (sym (stored_here place value memory q e))
      (subst (λ (p : WordAt). WordAgrees s p value (table_with records me new) (role_of s p)) e here))
      (λ ne. subst (λ (word : ℕ). WordAgrees s q word (table_with records me new) (role_of s q)) (sym (stored_there place value memory q ne)) (word_stays (role_of s q) q (word_at memory q) (agrees q is)))

-- ---- a change of a word of flags leaves the bits that are nobody's

-- the bits that are not a peer's are those of the noted word
record IsChange (s : SetupView) (owner value : ℕ) (o : Option ℕ) : Type 0 where
  pub old : ℕ
  pub noted : o ≡ Some old
  pub same : (b : ℕ) → are_peers s owner b ≡ false → bit_at value b ≡ bit_at old b

module _ (s : SetupView) (rec : Record) (me : ℕ) (below : me < s.nue) (value : ℕ) (lower raise : ℕ → Move) where
  lowers_peer : (owner old : ℕ) (o : Option ℕ) → lowered_below me old value s.nue ≡ o → owner ≡ me → permits (chunk_of s) (move_at lower o) rec ≡ true → IsChange s owner value (Some old)
  lowers_peer owner old None low e may = absurd (cc)
  lowers_peer owner old (Some j) low e may = let l = lowered_below-is me old value s.nue j low in let w = lowers_is j old value l.lowers in
      record { old = old; noted = refl; same = λ b f. w.there b (λ is. true_not_false (sym (peers_from s me j below l.below (λ x. l.other (sym x))) ∙ (λ i. are_peers s (sym e i) (sym is i)) ∙ f)) }

  raises_own : (owner old : ℕ) → owner < s.nue → (owner == me) ≡ false → (b : Bool) → raises_bit me old value ≡ b → permits (chunk_of s) (if b then raise owner else Misplaced) rec ≡ true → IsChange s owner value (Some old)
  raises_own owner old lt other true t may = let w = raises_is me old value t in
      record { old = old; noted = refl; same = λ b f. w.there b (λ is. true_not_false (sym (peers_from s owner me lt below (eq_not owner me other)) ∙ ap (are_peers s owner) (sym is) ∙ f)) }
  raises_own owner old lt other false t may = absurd (cc)

  changes : (owner old : ℕ) → owner < s.nue → (b : Bool) → (owner == me) ≡ b → permits (chunk_of s) (if b then move_at lower (lowered_below me old value s.nue) else (if raises_bit me old value then raise owner else Misplaced)) rec ≡ true → IsChange s owner value (Some old)
  changes owner old lt true t may = lowers_peer owner old (lowered_below me old value s.nue) refl (eq_is owner me t) may
  changes owner old lt false t may = raises_own owner old lt t (raises_bit me old value) refl may

  change_is : (owner : ℕ) (o : Option ℕ) → owner < s.nue → permits (chunk_of s) (change_at lower raise s me owner value o) rec ≡ true → IsChange s owner value o
  change_is owner None lt may = absurd (cc)
  change_is owner (Some old) lt may = changes owner old lt (owner == me) refl may

-- ---- one event

module _ (s : SetupView) (memory : Memory) (records : ℕ → Record) (me : ℕ) (below : me < s.nue) (place : WordAt) (value : ℕ) (noted : NotedFlags s.layout ((records me).held place.core) (memory.word place.core 1)) where
  -- the word that is stored, by its use
  stored_agrees : (role : Role) → Stands s place role → permits_act (chunk_of s) (store_act s me (records me) place value role) (records me) ≡ true → WordAgrees s place (word_at memory place) records role
      → WordAgrees s place value (table_with records me (after_act (chunk_of s) (store_act s me (records me) place value role) (records me))) role
  stored_agrees HeapWord st may agrees = inr (record {
    by = me;
    below = below;
    stored = subst (λ (r : Record). Contains r.heap (record { place = place; value = value })) (sym (put_here records me (after (chunk_of s) (StoreHeap place value) (records me)))) (Contains-push (records me).heap (record { place = place; value = value }));
  })
  stored_agrees IdleWord st may agrees = absurd (cc)
  stored_agrees (SignalFlags signal at) st may agrees =
      let c = change_is s (records me) me below value (LowerSignal signal) (RaiseSignal signal) at (flags_noted signal (records me) place.core) st.0.below may in
      let word : word_at memory place ≡ c.old = (λ i. memory.word place.core (st.0.at_line i) (st.0.at_word i)) ∙ noted_is s.layout signal ((records me).held place.core) (memory.word place.core 1) c.old noted c.noted in
      λ b f. c.same b f ∙ ap (λ (w : ℕ). bit_at w b) (sym word) ∙ agrees b f
  stored_agrees role st may agrees = tt

-- heap words, idle words and nobody's bits agree, after each permitted event that is a step
pub words_kept : (s : SetupView) (me : ℕ) (memory : Memory) (records : ℕ → Record) (e : Event) → IsSetup s → me < s.nue → IsEvent e → IsStep memory e → IsPermitted s me (records me) e → RegistersAgree s memory records → WordsAgree s memory records
    → WordsAgree s (memory_after memory e) (table_with records me (record_after s me (records me) e))
unfolding act_of
words_kept s me memory records e valid below is step may registers agrees = by e.access e.place e.value is step may grows
  where
    grows : (x : HeapStore) → Contains (records me).heap x → Contains (record_after s me (records me) e).heap x
    grows x has = let made = event_made s memory records me e valid below is step may registers in
        subst (λ (r : Record). Contains r.heap x) (sym made.2.becomes) (heap_grows made.0 (records me).heap x has)

    by : (access : Access) (place : WordAt) (value : ℕ) → IsAccess access place value → IsStepBy access place value memory → IsTrue (permits_by s me (records me) access place value)
        → ((x : HeapStore) → Contains (records me).heap x → Contains (record_after s me (records me) (record { access = access; place = place; value = value })).heap x)
        → WordsAgree s (memory_by access place value memory) (table_with records me (record_after s me (records me) (record { access = access; place = place; value = value })))
    by Load place value is step may grows = words_stay s records me (record_after s me (records me) (record { access = Load; place = place; value = value })) grows memory memory (λ p. refl) agrees
    by Take place value is step may grows = words_stay s records me (record_after s me (records me) (record { access = Take; place = place; value = value })) grows memory (memory_by Take place value memory) (λ p. refl) agrees
    by Free place value is step may grows = words_stay s records me (record_after s me (records me) (record { access = Free; place = place; value = value })) grows memory (memory_by Free place value memory) (λ p. refl) agrees
    by Store place value is step may grows =
        word_stored s records me (record_after s me (records me) (record { access = Store; place = place; value = value })) grows memory place value
        (subst (λ (r : Record). WordAgrees s place value (table_with records me r) (role_of s place)) (sym (if_yes _ _ (records me) may))
        (stored_agrees s memory records me below place value ((registers place.core).noted me below) (role_of s place) (role_stands s place is.0.word_below) may (agrees place is.0)))
        agrees
