-- Wherever steps lead from the start of a script that was read, each register of a rank has no bytes, or as many as the
-- reader reckoned, and so it was wherever the rank stood on its way.
use Rattle.std.proofs.Common.{◌≡◌, ◌≢◌, ℕ, zero, suc, ◌<◌, ◌≤◌, ◌%◌, Bool, true, false, List, [], length, replicate, set, get_or, Option, Some, None, refl, sym, ap, ◌∙◌, subst, arith, slice_get, slice_index_or, inl, inr, ⊎_elim}
use Rattle.std.specs.Option.{option_map}
use Rattle.std.proofs.lemmas.Bool.{cases_eq, cases_lt}
use Rattle.std.proofs.lemmas.List.{get_or-set_other, get_or-set_same, get_or_past, length-set}
use Rattle.std.proofs.lemmas.List.FromFn.{length-map-range_with_len}
use Rattle.std.proofs.lemmas.Option.{same_Some, slice_get_within}
use Rattle.scc_base.specs.Groups.{is_with}
use Rattle.scc_base.specs.Heads.{MessageHead}
use Rattle.scc_base.specs.Runs.{Runs}
use Rattle.groups.specs.Folds.{bytes_in}
use Rattle.groups.specs.declared.operations.Op.{Op}
use Rattle.groups.specs.declared.operations.Ty.{Ty}
use Rattle.groups.specs.declared.operations.Ty.TheVariants as ty_of
use Rattle.script_rules.specs.Script.{Script, has_rank, rules_of}
use Rattle.script_rules.specs.Settled.{IsWholeScript}
use Rattle.script_rules.specs.declared.script.Item.{Item}
use Rattle.script_rules.specs.declared.script.Stmt.TheVariants as stmt
use Rattle.script_machine.specs.declared.posts.Posted.{Posted}
use Rattle.plain_meaning.specs.Collectives.{gone_through, start_of_rank}
use Rattle.script_machine.specs.Local.{register_at}
use Rattle.plain_meaning.specs.Meaning.{IsPlainStep, State, keys_of, next_of, start_of}
use Rattle.script_machine.specs.Next.{Next, is_at_barrier, past_barrier}
use Rattle.script_machine.specs.Next.Next.{Ends, Goes, Posts, Sends, Recvs, Bars}
use Rattle.script_machine.specs.Program.{setup_of}
use Rattle.plain_meaning.specs.Step.{Configuration, all_at_barrier, by_rank, next_at, past_if, same_head, slot_at}
use Rattle.script_machine.proofs.ProgramLengths.LengthLemmas.{IsEven, Reckons, reckoned}
use Rattle.plain_meaning.specs.Kept.{HoldsLength, reckoned_at}
use Rattle.plain_meaning.proofs.ProgramLengths.LengthPaths.{AreFitting, IsSound, SoundNext, fitting_before, sound_next, sound_through}
use Rattle.plain_meaning.proofs.ProgramLengths.LengthPrograms.{keeps_items}
use Rattle.plain_meaning.proofs.Messages.MessageLaws.{cell_other, cell_there, empty_slot, same_heads}
use Rattle.plain_meaning.proofs.OwnWays.OwnWayLaws.{stands, start_cell}
use Rattle.plain_meaning.proofs.Runs.RunLaws.{get-by_rank, stands_there}
use Rattle.plain_meaning.proofs.Runs.StepLaws as steps
use Rattle.plain_meaning.proofs.Runs.StepLaws.Takes.{Alone, Left, Met, Fetched, RefusedPost, RefusedSend, Passed}

-- the lengths of each rank's registers, for so many ranks
module _ (nue : ℕ) (had : ℕ → ℕ → Option ℕ) where
  abbrev IsSoundAt : ℕ → State → Type 0
  IsSoundAt k u = (k < nue) × IsSound (had k) u

  abbrev AllSound : List State → Type 0
  AllSound us = (k : ℕ) (u : State) → slice_get us k ≡ Some u → IsSoundAt k u

  -- a message in a slot has the length of its head
  abbrev AreEven : (ℕ → Option Posted) → Type 0
  AreEven slots = (k : ℕ) (m : Posted) → slots k ≡ Some m → length m.bytes ≡ m.head.len

  record IsSoundIn (c : Configuration State) : Type 0 where
    cells : AllSound c.cells
    slots : AreEven (slot_at c)

  sound_set : (us : List State) (i : ℕ) (v w : State) → slice_get us i ≡ Some w → IsSound (had i) v → AllSound us → AllSound (set us i v)
  sound_set us i v w here new all k u at =
      ⊎_elim
      (λ (is : k ≡ i).
      let same : v ≡ u = same_Some v u (sym (cell_there us i v w here) ∙ ap (slice_get (set us i v)) (sym is) ∙ at) in
      subst (λ (x : State). IsSoundAt k x) same (subst (λ (j : ℕ). IsSoundAt j v) (sym is) ((all i w here).0, new)))
      (λ (apart : k ≢ i). all k u (sym (cell_other us i v k apart) ∙ at))
      (cases_eq k i)

  even_set : (slots : List (Option Posted)) (i : ℕ) (o : Option Posted) → ((m : Posted) → o ≡ Some m → length m.bytes ≡ m.head.len) → AreEven (λ k. get_or slots k None) → AreEven (λ k. get_or (set slots i o) k None)
  even_set slots i o new all k m at =
      ⊎_elim
      (λ (is : k ≡ i). here (ap (λ (j : ℕ). get_or (set slots i o) j None) (sym is) ∙ at))
      (λ (apart : k ≢ i). all k m (sym (get_or-set_other slots i k o None apart) ∙ at))
      (cases_eq k i)
    where
      here : get_or (set slots i o) i None ≡ Some m → length m.bytes ≡ m.head.len
      here there =
          ⊎_elim
          (λ (within : i < length slots). new m (sym (get_or-set_same slots i o None within) ∙ there))
          (λ (past : length slots ≤ i). absurd (let none : get_or (set slots i o) i None ≡ None = get_or_past (set slots i o) i None (omega (arith, past, length-set slots i o)) in cc))
          (cases_lt i (length slots))

  -- what stands at a rank is sound after it
  next_sound : (c : Configuration State) (i : ℕ) (n : Next State) → AllSound c.cells → next_at next_of c i ≡ n → (n ≡ Ends → ⊥) → (u : State) × (slice_get c.cells i ≡ Some u) × SoundNext (had i) n
  next_sound c i n all at goes =
      let here = stands c i n at goes in
      (here.0, here.1, subst (SoundNext (had i)) here.2 (sound_next (had i) here.0 (all i here.0 here.1).1))

  past_sound : (k comm : ℕ) (u : State) (n : Next State) → is_at_barrier comm n ≡ true → IsSound (had k) u → SoundNext (had k) n → IsSound (had k) (past_barrier n u)
  past_sound k comm u Ends at sound next = sound
  past_sound k comm u (Goes after) at sound next = sound
  past_sound k comm u (Posts message after) at sound next = sound
  past_sound k comm u (Sends to head bytes after) at sound next = sound
  past_sound k comm u (Recvs from head take refuse) at sound next = sound
  past_sound k comm u (Bars other after) at sound next = next

  sound_past : (c : Configuration State) (comm : ℕ) (test : ℕ → Bool) → all_at_barrier next_of comm test c.cells ≡ true → AllSound c.cells → AllSound (by_rank (λ rank. past_if next_of (test rank)) c.cells)
  sound_past c comm test all sound k v at = by_cell (slice_get c.cells k) refl (sym (get-by_rank (λ rank. past_if next_of (test rank)) c.cells k) ∙ at)
    where
      by_test : (u : State) → slice_get c.cells k ≡ Some u → (b : Bool) → test k ≡ b → IsSoundAt k (past_if next_of b u)
      by_test u here true member = let is = sound k u here in (is.0, past_sound k comm u (next_of u) (stands_there next_of comm test c.cells k u all member here) is.1 (sound_next (had k) u is.1))
      by_test u here false member = sound k u here

      by_cell : (o : Option State) → slice_get c.cells k ≡ o → option_map (past_if next_of (test k)) o ≡ Some v → IsSoundAt k v
      by_cell None here is = absurd (cc)
      by_cell (Some u) here is = subst (IsSoundAt k) (same_Some (past_if next_of (test k) u) v is) (by_test u here (test k) refl)

  asked_same : (sent asked : MessageHead) (n : ℕ) → same_head sent asked ≡ true → n ≡ sent.len → n ≡ asked.len
  asked_same sent asked n same is = is ∙ ap (λ (h : MessageHead). h.len) (same_heads sent asked same)

  sound_step : (keys : ℕ → ℕ → ℕ) (c d : Configuration State) (i : ℕ) → steps.Takes keys next_of c i d → IsSoundIn c → IsSoundIn d
  sound_step keys c d i (Alone after at made) sound =
      let here = next_sound c i (Goes after) sound.cells at (λ e. cc) in
      subst IsSoundIn (sym made) (record { cells = sound_set c.cells i after here.0 here.1 here.2 sound.cells; slots = sound.slots })
  sound_step keys c d i (Left message after at slot made) sound =
      let here = next_sound c i (Posts message after) sound.cells at (λ e. cc) in
      subst IsSoundIn (sym made)
      (record {
        cells = sound_set c.cells i after here.0 here.1 here.2.0 sound.cells;
        slots = even_set c.slots i (Some message) (λ m is. let same : message ≡ m = same_Some message m is in subst (λ (x : Posted). length x.bytes ≡ x.head.len) same here.2.1) sound.slots;
      })
  sound_step keys c d i (Met j head bytes after asked take refuse at slot meets same made) sound =
      let here = next_sound c i (Sends j head bytes after) sound.cells at (λ e. cc) in
      let peer = next_sound c j (Recvs i asked take refuse) sound.cells meets (λ e. cc) in
      let apart : j ≢ i = λ e. let both : Recvs i asked take refuse ≡ Sends j head bytes after = sym meets ∙ ap (next_at next_of c) e ∙ at in cc in
      subst IsSoundIn (sym made)
      (record {
        cells = sound_set (set c.cells i after) j (take bytes) peer.0 (cell_other c.cells i after j apart ∙ peer.1) (peer.2.0 bytes (asked_same head asked (length bytes) same here.2.1))
            (sound_set c.cells i after here.0 here.1 here.2.0 sound.cells);
        slots = sound.slots;
      })
  sound_step keys c d i (Fetched j asked take refuse message at slot mine same made) sound =
      let here = next_sound c i (Recvs j asked take refuse) sound.cells at (λ e. cc) in
      subst IsSoundIn (sym made)
      (record {
        cells = sound_set c.cells i (take message.bytes) here.0 here.1 (here.2.0 message.bytes (asked_same message.head asked (length message.bytes) same (sound.slots j message slot))) sound.cells;
        slots = even_set c.slots j None (λ m is. absurd (cc)) sound.slots;
      })
  sound_step keys c d i (RefusedPost j asked take refuse message at slot mine same made) sound =
      let here = next_sound c i (Recvs j asked take refuse) sound.cells at (λ e. cc) in
      subst IsSoundIn (sym made) (record { cells = sound_set c.cells i (refuse message.head) here.0 here.1 (here.2.1 message.head) sound.cells; slots = sound.slots })
  sound_step keys c d i (RefusedSend j asked take refuse sent bytes after at slot meets same made) sound =
      let here = next_sound c i (Recvs j asked take refuse) sound.cells at (λ e. cc) in
      subst IsSoundIn (sym made) (record { cells = sound_set c.cells i (refuse sent) here.0 here.1 (here.2.1 sent) sound.cells; slots = sound.slots })
  sound_step keys c d i (Passed comm after at root all made) sound =
      subst IsSoundIn (sym made) (record { cells = sound_past c comm (is_with (keys comm) i) all sound.cells; slots = sound.slots })

  sound_runs : (keys : ℕ → ℕ → ℕ) (n : ℕ) (c d : Configuration State) → Runs (IsPlainStep keys) (λ e. e ≡ d) n c → IsSoundIn c → IsSoundIn d
  sound_runs keys zero c d same sound = subst IsSoundIn same sound
  sound_runs keys (suc n) c d (a, t, step, rest) sound = sound_runs keys n t d rest (sound_step keys c t a (steps.seen keys next_of c t a step) sound)

-- at the start no register has bytes, and the program keeps the lengths
empty_register : (n reg : ℕ) → length (slice_index_or {A = List ℕ} (replicate n []) reg []) ≡ 0
empty_register zero reg = refl
empty_register (suc n) zero = refl
empty_register (suc n) (suc reg) = empty_register n reg

pub sound_started : (script : Script) (rank : ℕ) → IsWholeScript script.nue script.items → rank < script.nue → IsSound (reckoned_at script rank) (start_of_rank script rank)
sound_started script rank whole below = record {
  fits = record {
    acc = None;
    got = None;
    registers = λ reg. inl (empty_register (length script.names) reg);
    accumulator = inl refl;
    received = inl refl;
    keeps = keeps_items (reckoned_at script rank) (setup_of script) rank script.items (λ k item found has. reckoned script whole k item rank found below has) None None;
  };
  calls = tt;
}

sound_start : (script : Script) → IsWholeScript script.nue script.items → IsSoundIn script.nue (reckoned_at script) (start_of script)
sound_start script whole = record {
  cells = λ k u at.
      let many : length (start_of script).cells ≡ script.nue = length-map-range_with_len (start_of_rank script) 0 script.nue in
      let below : k < script.nue = omega (arith, slice_get_within (start_of script).cells k u at, many) in
      (below, subst (IsSound (reckoned_at script k)) (start_cell script k u at) (sound_started script k whole below));
  slots = λ k m at. absurd (let none : slot_at (start_of script) k ≡ None = empty_slot script.nue k in cc);
}

-- no bytes, or whole values
none_even : (ty : Ty) → 0 % bytes_in ty ≡ 0
none_even ty_of.Int = refl
none_even ty_of.Long = refl

even_by : (ty : Ty) (o : Option ℕ) (m : ℕ) → IsEven ty o → HoldsLength o m → m % bytes_in ty ≡ 0
even_by ty o m even (inl none) = ap (λ (x : ℕ). x % bytes_in ty) none ∙ none_even ty
even_by ty o m even (inr is) = ap (λ (x : ℕ). x % bytes_in ty) (same_Some m even.0 (sym is ∙ even.1)) ∙ even.2

module _ (script : Script) (whole : IsWholeScript script.nue script.items) (n : ℕ) (c : Configuration State) (run : Runs (IsPlainStep (keys_of script)) (λ e. e ≡ c) n (start_of script))
    (rank : ℕ) (u : State) (there : slice_get c.cells rank ≡ Some u) where
  sound_now : IsSoundAt script.nue (reckoned_at script) rank u
  sound_now = (sound_runs script.nue (reckoned_at script) (keys_of script) n (start_of script) c run (sound_start script whole)).cells rank u there

  -- a rank that is there is one of the script's
  pub rank_within : rank < script.nue
  rank_within = sound_now.0

  -- and wherever the rank stood on its way
  pub lengths_before : (way later : List (List ℕ)) (begun : State) → begun ≡ gone_through way (start_of_rank script rank) → u.matched ≡ (gone_through later begun).matched
      → (reg : ℕ) → HoldsLength (reckoned_at script rank reg) (length (register_at begun.local reg))
  lengths_before way later begun came since reg =
      let calls : AreFitting begun.matched = fitting_before later begun (subst AreFitting since sound_now.1.calls) in
      let stood = sound_through (reckoned_at script rank) way (start_of_rank script rank) (sound_started script rank whole sound_now.0) (subst (λ (x : State). AreFitting x.matched) came calls) in
      subst (λ (x : State). HoldsLength (reckoned_at script rank reg) (length (register_at x.local reg))) (sym came) (stood.fits.registers reg)

  -- the source of a reduction has whole values
  source_whole : (way later : List (List ℕ)) (begun : State) → begun ≡ gone_through way (start_of_rank script rank) → u.matched ≡ (gone_through later begun).matched
      → (ty : Ty) (src : ℕ) → IsEven ty (reckoned_at script rank src) → length (register_at begun.local src) % bytes_in ty ≡ 0
  source_whole way later begun came since ty src even =
      even_by ty (reckoned_at script rank src) (length (register_at begun.local src)) even (lengths_before way later begun came since src)

  pub reduced_whole : (way later : List (List ℕ)) (begun : State) → begun ≡ gone_through way (start_of_rank script rank) → u.matched ≡ (gone_through later begun).matched
      → (k : ℕ) (item : Item) → slice_get script.items k ≡ Some item → has_rank item.who rank ≡ true
      → (comm place dst src : ℕ) (op : Op) (ty : Ty) → item.stmt ≡ stmt.Reduce comm place op ty dst src → length (register_at begun.local src) % bytes_in ty ≡ 0
  reduced_whole way later begun came since k item found has comm place dst src op ty is =
      let reckons = subst (Reckons (rules_of script.items) (reckoned_at script rank) rank) is (reckoned script whole k item rank found sound_now.0 has) in
      source_whole way later begun came since ty src reckons.0

  pub reduced_to_all_whole : (way later : List (List ℕ)) (begun : State) → begun ≡ gone_through way (start_of_rank script rank) → u.matched ≡ (gone_through later begun).matched
      → (k : ℕ) (item : Item) → slice_get script.items k ≡ Some item → has_rank item.who rank ≡ true
      → (comm dst src : ℕ) (op : Op) (ty : Ty) → item.stmt ≡ stmt.Allreduce comm op ty dst src → length (register_at begun.local src) % bytes_in ty ≡ 0
  reduced_to_all_whole way later begun came since k item found has comm dst src op ty is =
      let reckons = subst (Reckons (rules_of script.items) (reckoned_at script rank) rank) is (reckoned script whole k item rank found sound_now.0 has) in
      source_whole way later begun came since ty src reckons.0
