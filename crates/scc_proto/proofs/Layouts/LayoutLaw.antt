-- Each permitted event that is a step of the memory is one move on the view that the words show.
use Rattle.std.proofs.Common.{◌≡◌, ◌≢◌, ℕ, ◌<◌, Bool, true, false, ◌&&◌, ◌==◌, if◌then◌else◌, Option, Some, None, is_some, is_none, option_map, option_and_then, refl, sym, ◌∙◌, ap, subst}
use Rattle.std.specs.Prelude.{IsTrue}
use Rattle.std.specs.Int.{bit_at}
use Rattle.scc_base.specs.Places.{WordAt, flag_in}
use Rattle.scc_base.specs.Layouts.{signal_at, signal_word}
use Rattle.scc_base.specs.declared.signals.Signal.{Signal}
use Rattle.scc_base.specs.Setups.{SetupView, IsSetup, host_of, place_of}
use Rattle.scc_base.specs.Events.{IsAccess, IsEvent}
use Rattle.scc_base.specs.declared.layouts.Layout.{Layout}
use Rattle.scc_base.specs.declared.layouts.Layout.TheVariants.{LineFlags, BitFlags}
use Rattle.scc_base.specs.declared.events.Access.{Access}
use Rattle.scc_base.specs.declared.events.Access.TheVariants.{Load, Store, Take, Free}
use Rattle.scc_base.specs.declared.events.Event.{Event}
use Rattle.scc_proto.specs.Tables.{table_with, put_two, put_signal}
use Rattle.scc_proto.specs.Stages.{FlagWords, Record}
use Rattle.scc_proto.specs.Moves.{Move, DraftHeader, DraftChunk, RaiseSignal, LowerSignal, FlipGather, WriteRelease, NoMove, Misplaced, after}
use Rattle.scc_proto.specs.Permission.{permits}
use Rattle.scc_proto.specs.Words.{Memory, word_at, IsStep, IsStepBy, memory_after, Role, HeaderWord, ChunkWord, SignalFlag, SignalFlags, GatherFlag, ReleaseFlag, HeapWord, IdleWord, role_of, are_peers}
use Rattle.scc_proto.specs.Records.{EventAct, Moving, NotingSignal, Holding, act_of, load_act, store_act, load_by, store_by, last_of, leads, raises_bit, lowered_below, move_at, change_at, flags_in, flags_noted, note_flags, forget_flags, chunk_of, after_act, permits_act, permits_by, IsPermitted, record_after}
use Rattle.scc_proto.specs.Registers.{IsNotedWord, NotedFlags}
use Rattle.scc_proto.specs.Views.{View, word_of_flag, view_of, view_after_move}
use Rattle.scc_proto.specs.Agreement.{RegistersAgree}
use Rattle.scc_proto.proofs.Layouts.MoveFacts.{IsMoveOf, Tells, IsViewStep, SameView}
use Rattle.scc_proto.proofs.Tests.{same_or_other, put_two_here, put_two_first, put_two_second, put_signal_alike, both_first, both_second, peers_from, peers_swap}
use Rattle.scc_proto.proofs.Layouts.Roles.{if_yes, if_no, eq_is, eq_not, IsOwn, Stands, role_stands}
use Rattle.scc_proto.proofs.Words.FlagBits.{raises_is, lowers_is, lowered_below-is}
use Rattle.scc_proto.proofs.Layouts.ViewStores.{bits_at, view_stored, store_shows}
use Rattle.scc_proto.proofs.Layouts.LayoutLoads.{same_view, view_is, view_then, either, leads_member, LoadsAs, no_move, loads_as}

-- an event is this move of a rank on the view, and leaves these registers held
pub record IsMadeBy (s : SetupView) (memory : Memory) (rec : Record) (me : ℕ) (e : Event) (move : Move) (held : ℕ → Option FlagWords) : Type 0 where
  pub step : IsViewStep s me (view_of s memory) rec move
  pub shows : SameView s (view_after_move me move (view_of s memory)) (view_of s (memory_after memory e))
  pub becomes : record_after s me rec e ≡ record (after (chunk_of s) move rec) { held = held }

-- ---- one bit of a word of flags is put

bit_put : (table : ℕ → ℕ → ℕ) (i owner b old new : ℕ) → bit_at new i ≡ b → ((k : ℕ) → k ≢ i → bit_at new k ≡ bit_at old k) → ((k : ℕ) → table k owner ≡ bit_at old k)
    → (k l : ℕ) → put_two table i owner b k l ≡ (if l == owner then bit_at new k else table k l)
bit_put table i owner b old new here there shows k l = same_or_other (put_two table i owner b k l ≡ (if l == owner then bit_at new k else table k l)) l owner
    (λ t e. same_or_other (put_two table i owner b k l ≡ (if l == owner then bit_at new k else table k l)) k i
    (λ u f. (λ n. put_two table i owner b (f n) (e n)) ∙ put_two_here table i owner b ∙ sym here ∙ ap (bit_at new) (sym f) ∙ sym (if_yes (l == owner) (bit_at new k) (table k l) t))
    (λ u ne. put_two_first table i owner b k l ne ∙ ap (table k) e ∙ shows k ∙ sym (there k ne) ∙ sym (if_yes (l == owner) (bit_at new k) (table k l) t)))
    (λ t ne. put_two_second table i owner b k l ne ∙ sym (if_no (l == owner) (bit_at new k) (table k l) t))

-- the word that is noted under a register is the word
pub noted_is : (layout : Layout) (signal : Signal) (held : Option FlagWords) (words : ℕ → ℕ) (old : ℕ) → NotedFlags layout held words → option_and_then (λ (flags : FlagWords). flags_in signal flags) held ≡ Some old
    → words (signal_word signal) ≡ old
noted_is layout signal None words old noted is = absurd (cc)
noted_is LineFlags signal (Some flags) words old noted is = let a : None ≡ Some old = sym (noted signal) ∙ is in absurd (cc)
noted_is BitFlags signal (Some flags) words old noted is = subst (λ (o : Option ℕ). IsNotedWord o (words (signal_word signal))) is (noted signal)

-- ---- stores

-- a store of a word of this use is this move
record StoresAs (s : SetupView) (me : ℕ) (view : View) (role : Role) (value : ℕ) (move : Move) : Type 0 where
  pub own : IsMoveOf s me move
  pub told : Tells me move view
  pub shows : SameView s (view_after_move me move view) (view_stored role value view)

-- what is permitted is a move of this kind
abbrev IfPermitted : SetupView → Record → (Move → Type 0) → Move → Type 0
IfPermitted s rec P move = permits (chunk_of s) move rec ≡ true → P move

misplaced : {P : Type 0} (s : SetupView) (rec : Record) → permits (chunk_of s) Misplaced rec ≡ true → P
misplaced s rec t = absurd (cc)

module _ (s : SetupView) (memory : Memory) (rec : Record) (me : ℕ) (below : me < s.nue) (place : WordAt) (value : ℕ) (noted : NotedFlags s.layout (rec.held place.core) (memory.word place.core 1)) where
  abbrev Stored : Role → Move → Type 0
  Stored role move = IfPermitted s rec (StoresAs s me (view_of s memory) role value) move

  -- a bit that is not put shows the noted word
  shows_old : (signal : Signal) (owner old : ℕ) → IsOwn s place owner 1 (signal_word signal) → s.layout ≡ BitFlags → flags_noted signal rec place.core ≡ Some old → (by : ℕ) → (view_of s memory).signal signal by owner ≡ bit_at old by
  shows_old signal owner old own bits is by =
      ap (λ (layout : Layout). flag_in (signal_at layout signal by).bit (word_of_flag memory (host_of s.hosts owner) (signal_at layout signal by))) bits
      ∙ ap (λ (w : ℕ). bit_at w by)
      (ap (λ (core : ℕ). memory.word core 1 (signal_word signal)) (sym own.on) ∙ noted_is s.layout signal (rec.held place.core) (memory.word place.core 1) old noted is)

  bits_put : (signal : Signal) (owner old new i b : ℕ) → IsOwn s place owner 1 (signal_word signal) → s.layout ≡ BitFlags → flags_noted signal rec place.core ≡ Some old → bit_at new i ≡ b
      → ((k : ℕ) → k ≢ i → bit_at new k ≡ bit_at old k)
      → SameView s (record (view_of s memory) { signal = put_signal (view_of s memory).signal signal (put_two ((view_of s memory).signal signal) i owner b) }) (view_stored (SignalFlags signal owner) new (view_of s memory))
  bits_put signal owner old new i b own bits is here there = record {
    signal = λ other by at peers. put_signal_alike (view_of s memory).signal signal other (put_two ((view_of s memory).signal signal) i owner b) (bits_at ((view_of s memory).signal signal) owner new) by at
        (bit_put ((view_of s memory).signal signal) i owner b old new here there (shows_old signal owner old own bits is) by at);
    header = λ r k lt. refl;
    chunk = λ r k lt. refl;
    gather = λ comm r present lt. refl;
    release = λ comm r present lt. refl;
  }

  lowers : (signal : Signal) (owner old : ℕ) (o : Option ℕ) → lowered_below me old value s.nue ≡ o → owner ≡ me → IsOwn s place owner 1 (signal_word signal) → s.layout ≡ BitFlags → flags_noted signal rec place.core ≡ Some old
      → Stored (SignalFlags signal owner) (move_at (LowerSignal signal) o)
  lowers signal owner old None low e own bits is = misplaced s rec
  lowers signal owner old (Some j) low e own bits is = let l = lowered_below-is me old value s.nue j low in let w = lowers_is j old value l.lowers in
      λ t. record {
        own = peers_from s me j below l.below (λ x. l.other (sym x));
        told = tt;
        shows = subst (λ (x : ℕ). SameView s (record (view_of s memory) { signal = put_signal (view_of s memory).signal signal (put_two ((view_of s memory).signal signal) j x 0) }) (view_stored (SignalFlags signal owner) value (view_of s memory))) e
            (bits_put signal owner old value j 0 own bits is w.here w.there);
      }

  changes : (signal : Signal) (owner : ℕ) (o : Option ℕ) → flags_noted signal rec place.core ≡ o → IsOwn s place owner 1 (signal_word signal) → s.layout ≡ BitFlags
      → Stored (SignalFlags signal owner) (change_at (LowerSignal signal) (RaiseSignal signal) s me owner value o)
  changes signal owner None is own bits = misplaced s rec
  changes signal owner (Some old) is own bits = either (Stored (SignalFlags signal owner)) (owner == me) _ _
      (λ t. lowers signal owner old (lowered_below me old value s.nue) refl (eq_is owner me t) own bits is)
      (λ f. either (Stored (SignalFlags signal owner)) (raises_bit me old value) (RaiseSignal signal owner) Misplaced
      (λ t may. let w = raises_is me old value t in record { own = peers_from s me owner below own.below (λ x. eq_not owner me f (sym x)); told = tt; shows = bits_put signal owner old value me 1 own bits is w.here w.there })
      (λ g. misplaced s rec))

  stores_as : (role : Role) → Stands s place role → Stored role (store_by s me rec place value role)
  stores_as (HeaderWord owner k) st = either (Stored (HeaderWord owner k)) (owner == me) (DraftHeader k value) Misplaced
      (λ t may. record { own = tt; told = tt; shows = view_is s _ _ (ap (λ (x : ℕ). record (view_of s memory) { header = put_two (view_of s memory).header x k value }) (sym (eq_is owner me t))) })
      (λ f. misplaced s rec)
  stores_as (ChunkWord owner k) st = either (Stored (ChunkWord owner k)) (owner == me) (DraftChunk k value) Misplaced
      (λ t may. record { own = tt; told = tt; shows = view_is s _ _ (ap (λ (x : ℕ). record (view_of s memory) { chunk = put_two (view_of s memory).chunk x k value }) (sym (eq_is owner me t))) })
      (λ f. misplaced s rec)
  stores_as (SignalFlag signal by at) st = either (Stored (SignalFlag signal by at)) ((by == me) && (value == 1)) (RaiseSignal signal at) _
      (λ t may. let own = eq_is by me (both_first (by == me) (value == 1) t) in let set = eq_is value 1 (both_second (by == me) (value == 1) t) in
      record {
        own = subst (λ (x : ℕ). are_peers s x at ≡ true) own st.1;
        told = tt;
        shows = view_is s _ _ (λ i. record (view_of s memory) { signal = put_signal (view_of s memory).signal signal (put_two ((view_of s memory).signal signal) (sym own i) at (sym set i)) });
      })
      (λ f. either (Stored (SignalFlag signal by at)) ((at == me) && (value == 0)) (LowerSignal signal by) Misplaced
      (λ t may. let own = eq_is at me (both_first (at == me) (value == 0) t) in let clear = eq_is value 0 (both_second (at == me) (value == 0) t) in
      record {
        own = peers_swap s by me (subst (λ (x : ℕ). are_peers s by x ≡ true) own st.1);
        told = tt;
        shows = view_is s _ _ (λ i. record (view_of s memory) { signal = put_signal (view_of s memory).signal signal (put_two ((view_of s memory).signal signal) by (sym own i) (sym clear i)) });
      })
      (λ g. misplaced s rec))
  stores_as (SignalFlags signal at) st = changes signal at (flags_noted signal rec place.core) refl st.0 st.1
  stores_as (GatherFlag comm owner) st = either (Stored (GatherFlag comm owner)) (owner == me) (FlipGather comm value (last_of s comm me)) Misplaced
      (λ t may. record { own = (st.1, refl); told = tt; shows = view_is s _ _ (ap (λ (x : ℕ). record (view_of s memory) { gather = put_two (view_of s memory).gather comm x value }) (sym (eq_is owner me t))) })
      (λ f. misplaced s rec)
  stores_as (ReleaseFlag comm owner) st = either (Stored (ReleaseFlag comm owner)) (leads s comm me owner) (WriteRelease comm owner (place_of s comm owner) value (last_of s comm me)) Misplaced
      (λ t may. record { own = (leads_member s me comm owner st.1 st.0.below t, refl); told = tt; shows = same_view s _ })
      (λ f. misplaced s rec)
  stores_as HeapWord st = λ may. record { own = tt; told = tt; shows = same_view s (view_of s memory) }
  stores_as IdleWord st = misplaced s rec

-- ---- one event

-- some move, and some registers held
abbrev pub IsMade : SetupView → Memory → Record → ℕ → Event → Type 0
IsMade s memory rec me e = (move : Move) × (held : ℕ → Option FlagWords) × IsMadeBy s memory rec me e move held

module _ (s : SetupView) (valid : IsSetup s) (memory : Memory) (rec : Record) (me : ℕ) (below : me < s.nue) (place : WordAt) (value : ℕ) where
  abbrev made : Access → Event
  made access = record { access = access; place = place; value = value }

  -- a load that is this act
  record ActsAs (act : EventAct) : Type 0 where
    pub move : Move
    pub held : ℕ → Option FlagWords
    pub loads : LoadsAs s me (view_of s memory) rec move
    pub becomes : after_act (chunk_of s) act rec ≡ record (after (chunk_of s) move rec) { held = held }

  moves : (move : Move) → LoadsAs s me (view_of s memory) rec move → ActsAs (Moving move)
  moves move loads = record { move = move; held = rec.held; loads = loads; becomes = refl }

  notes_or : (noting : EventAct) (held : ℕ → Option FlagWords) (move : Move) (b : Bool) → after_act (chunk_of s) noting rec ≡ record rec { held = held } → LoadsAs s me (view_of s memory) rec NoMove → LoadsAs s me (view_of s memory) rec move
      → ActsAs (if b then noting else Moving move)
  notes_or noting held move true is none loads = record { move = NoMove; held = held; loads = none; becomes = is }
  notes_or noting held move false is none loads = moves move loads

  load_acts : word_at memory place ≡ value → (role : Role) → Stands s place role → ActsAs (load_act s me rec place value role)
  load_acts tells (SignalFlags signal at) st = notes_or (NotingSignal signal place.core value) (table_with rec.held place.core (option_map (note_flags signal value) (rec.held place.core))) _ (is_some (rec.held place.core)) refl
      (no_move s memory rec me below place value tells) (loads_as s memory rec me below place value tells (SignalFlags signal at) st)
  load_acts tells role st = moves (load_by s me value role) (loads_as s memory rec me below place value tells role st)

  load_made : place.word < 4 → word_at memory place ≡ value → IsMade s memory rec me (made Load)
  unfolding act_of
  load_made word tells = let a = load_acts tells (role_of s place) (role_stands s place word) in (
    a.move,
    a.held,
    record {
      step = record { rank = below; own = a.loads.own; told = a.loads.told; permitted = a.loads.permitted };
      shows = view_is s _ _ a.loads.shows;
      becomes = a.becomes;
    },
  )

  -- a store of this act
  store_becomes : (role : Role) → (held : ℕ → Option FlagWords) × (after_act (chunk_of s) (store_act s me rec place value role) rec ≡ record (after (chunk_of s) (store_by s me rec place value role) rec) { held = held })
  store_becomes (SignalFlags signal at) = (table_with rec.held place.core (option_map (forget_flags signal) (rec.held place.core)), refl)
  store_becomes role = (rec.held, refl)

  store_permits : (role : Role) → permits_act (chunk_of s) (store_act s me rec place value role) rec ≡ true → permits (chunk_of s) (store_by s me rec place value role) rec ≡ true
  store_permits (SignalFlags signal at) may = may
  store_permits role may = may

  store_made : place.word < 4 → NotedFlags s.layout (rec.held place.core) (memory.word place.core 1) → permits_act (chunk_of s) (store_act s me rec place value (role_of s place)) rec ≡ true → IsMade s memory rec me (made Store)
  unfolding act_of
  store_made word noted may =
      let permitted = store_permits (role_of s place) may in
      let a = stores_as s memory rec me below place value noted (role_of s place) (role_stands s place word) permitted in
      let b = store_becomes (role_of s place) in (
        store_by s me rec place value (role_of s place),
        b.0,
        record {
          step = record { rank = below; own = a.own; told = a.told; permitted = permitted };
          shows = view_then s _ (view_stored (role_of s place) value (view_of s memory)) _ a.shows (store_shows s valid place value memory word);
          becomes = if_yes (permits_act (chunk_of s) (store_act s me rec place value (role_of s place)) rec) _ rec may ∙ b.1;
        },
      )

  no_step : IsViewStep s me (view_of s memory) rec NoMove
  no_step = record { rank = below; own = tt; told = tt; permitted = refl }

  take_made : is_none (rec.held place.core) ≡ true → IsMade s memory rec me (made Take)
  unfolding act_of
  take_made may = (
    NoMove,
    (if value == 1 then table_with rec.held place.core (Some (record { sent = None; ready = None })) else rec.held),
    record {
      step = no_step;
      shows = same_view s (view_of s memory);
      becomes = if_yes (is_none (rec.held place.core)) _ rec may ∙ by (value == 1);
    },
  )
    where
      by : (b : Bool) → after_act (chunk_of s) (if b then Holding place.core else Moving NoMove) rec ≡ record rec { held = if b then table_with rec.held place.core (Some (record { sent = None; ready = None })) else rec.held }
      by true = refl
      by false = refl

  free_made : is_some (rec.held place.core) ≡ true → IsMade s memory rec me (made Free)
  unfolding act_of
  free_made may = (
    NoMove,
    table_with rec.held place.core None,
    record {
      step = no_step;
      shows = same_view s (view_of s memory);
      becomes = if_yes (is_some (rec.held place.core)) _ rec may;
    },
  )

-- each permitted event that is a step is one move on the view that the words show
pub event_made : (s : SetupView) (memory : Memory) (records : ℕ → Record) (me : ℕ) (e : Event) → IsSetup s → me < s.nue → IsEvent e → IsStep memory e → IsPermitted s me (records me) e → RegistersAgree s memory records
    → IsMade s memory (records me) me e
event_made s memory records me e valid below is step may registers = by e.access e.place e.value is step may
  where
    by : (access : Access) (place : WordAt) (value : ℕ) → IsAccess access place value → IsStepBy access place value memory → IsTrue (permits_by s me (records me) access place value)
        → IsMade s memory (records me) me (record { access = access; place = place; value = value })
    by Load place value is step may = load_made s valid memory (records me) me below place value is.0.word_below step
    by Store place value is step may = store_made s valid memory (records me) me below place value is.0.word_below ((registers place.core).noted me below) may
    by Take place value is step may = take_made s valid memory (records me) me below place value may
    by Free place value is step may = free_made s valid memory (records me) me below place value may
