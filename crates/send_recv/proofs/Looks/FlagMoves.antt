-- The changes of flags that the messages make: that the record permits them, and the record after them.
use Rattle.std.proofs.Common.{◌≡◌, ℕ, ◌<◌, Bool, true, false, if◌then◌else◌, List, [], ◌∷◌, ◌++◌, Option, Some, None, is_none, refl, sym, ◌∙◌, ap, subst, slice_index}
use Rattle.std.specs.Prelude.{IsTrue}
use Rattle.std.specs.Int.{bit_at}
use Rattle.scc_base.specs.Places.{FlagPlace, flag_word, line_of_word}
use Rattle.scc_base.specs.Layouts.{signal_at, signal_word}
use Rattle.scc_base.specs.declared.signals.Signal.{Signal}
use Rattle.scc_base.specs.declared.signals.Signal.TheVariants.{Sent, Ready}
use Rattle.scc_base.specs.Setups.{IsSetup}
use Rattle.scc_base.specs.Events.{store_of, take_of, free_of}
use Rattle.scc_base.specs.declared.layouts.Layout.{Layout}
use Rattle.scc_base.specs.declared.layouts.Layout.TheVariants.{LineFlags, BitFlags}
use Rattle.scc_proto.specs.Messages.{Notes}
use Rattle.scc_proto.specs.Stages.{FlagWords, Record}
use Rattle.scc_proto.specs.Moves.{Move, RaiseSignal, LowerSignal, after}
use Rattle.scc_proto.specs.Permission.{permits}
use Rattle.scc_proto.specs.Soundness.{IsSound, is_drafting, is_taking_from, is_answered}
use Rattle.scc_proto.specs.Words.{are_peers}
use Rattle.scc_proto.specs.Records.{chunk_of, change_held, forget_flags}
use Rattle.scc_proto.specs.Ports.{Seat, Sight, Did, MayMake, MayMakeAll, record_in, record_on}
use Rattle.scc_proto.proofs.Tests.{peers_are}
use Rattle.scc_proto.proofs.PortLaws.{record_did, record_did_one, record_on-append}
use Rattle.scc_proto.proofs.Layouts.PlaceMoves.{Makes, signal_lowered, signal_raised, signal_bit_raised, signal_bit_lowered}
use Rattle.write_combine.specs.declared.combiner.Out.{Out}
use Rattle.write_combine.specs.Combining.{handed_out}
use Rattle.put_get.specs.Accesses.{loads_of, stores_of}
use Rattle.put_get.specs.Cores.{Private}
use Rattle.sync_flags.specs.Flags.{with_bit}
use Rattle.sync_flags.specs.Writes.{RegisterTaken, BitChanged, TurnsOver}
use Rattle.send_recv.specs.Flags.{Changes, MayChange}
use Rattle.send_recv.specs.Steps.{own_core, core_of, signal_flag}
use Rattle.send_recv.specs.Turns.{HoldsNoneBy, HoldsNone}
use Rattle.send_recv.proofs.Looks.SignalFlags.{ChangesBy, MayChangeBy}
use Rattle.send_recv.proofs.Looks.ChangeLemmas.{with_hold, both_noted, line_noted, is_noted, move_made, bit_taken, bit_given}

-- with an empty buffer a line flag's store is the one event
empty_other : (out : Option Out) (core : ℕ) (flag : FlagPlace) → out ≡ None → handed_out out (line_of_word (flag_word core flag)) ≡ out
empty_other out core flag empty = subst (λ (o : Option Out). handed_out o (line_of_word (flag_word core flag)) ≡ o) (sym empty) refl

-- ---- a change of a flag that is a move of the record

-- the flags' line at the core of rank r was loaded under its register
abbrev pub noted_under : Seat → Record → ℕ → List ℕ → Record
noted_under seat rec r words = with_hold rec (core_of seat r) (both_noted (slice_index words 0) (slice_index words 1))

-- a signal's bit at the core of rank r stands as the sound record says, and turned over it is this move
pub record MovesBit (seat : Seat) (rec : Record) (r : ℕ) (signal : Signal) (by : ℕ) (set : Bool) (move : Move) : Type 0 where
  pub below : r < seat.setup.nue
  pub forget : FlagWords → FlagWords
  pub apart : (flags : FlagWords) → after (chunk_of seat.setup) move (with_hold rec (core_of seat r) flags) ≡ with_hold (after (chunk_of seat.setup) move rec) (core_of seat r) flags
  pub turns : (words : List ℕ) → IsSound seat.setup seat.rank (noted_under seat rec r words) → bit_at (slice_index words (signal_word signal)) by ≡ (if set then 0 else 1)
  pub stored : (words : List ℕ) → bit_at (slice_index words (signal_word signal)) by ≡ (if set then 0 else 1)
      → Makes seat (noted_under seat rec r words) (store_of (flag_word (core_of seat r) (signal_at BitFlags signal by)) (with_bit by set (slice_index words (signal_word signal))))
      (change_held forget (core_of seat r) (after (chunk_of seat.setup) move (noted_under seat rec r words)))

-- a change of a signal's flag at the core of rank r is this move: by one store, or by that of the word with its bit
abbrev pub MovesFlag : Layout → Seat → Record → ℕ → Signal → ℕ → Bool → Move → Type 0
MovesFlag LineFlags seat rec r signal by set move =
    Makes seat rec (store_of (flag_word (core_of seat r) (signal_at LineFlags signal by)) (if set then 1 else 0)) (after (chunk_of seat.setup) move rec)
MovesFlag BitFlags seat rec r signal by set move = MovesBit seat rec r signal by set move

bit_noted : (seat : Seat) (rec : Record) (r : ℕ) (signal : Signal) (by : ℕ) (words : List ℕ) → IsSetup seat.setup → seat.setup.layout ≡ BitFlags → r < seat.setup.nue → rec.held (core_of seat r) ≡ None
    → record_on seat rec (take_of (core_of seat r) true ∷ loads_of (line_of_word (flag_word (core_of seat r) (signal_at BitFlags signal by))) words) ≡ noted_under seat rec r words
bit_noted seat rec r signal by words valid bits below free = line_noted seat rec r words valid bits below free

pub may_change_by : (layout : Layout) (s : Sight) (c : Private) (r : ℕ) (signal : Signal) (by : ℕ) (set : Bool) (move : Move) → s.seat.setup.layout ≡ layout → IsSetup s.seat.setup
    → HoldsNoneBy layout (record_in s).held → c.out ≡ None → MovesFlag layout s.seat (record_in s) r signal by set move → MayChangeBy layout s c (core_of s.seat r) signal by set
may_change_by LineFlags s c r signal by set move lines valid hands empty moves =
    let store = store_of (flag_word (core_of s.seat r) (signal_at LineFlags signal by)) (if set then 1 else 0) in
    record {
      other = empty_other c.out (core_of s.seat r) (signal_at LineFlags signal by) empty;
      permitted = subst (λ (o : Option Out). MayMakeAll s.seat (record_in s) (stores_of o ++ store ∷ [])) (sym empty) (moves.may, tt);
    }
may_change_by BitFlags s c r signal by set move bits valid hands empty moves =
    let core = core_of s.seat r in
    let place = flag_word core (signal_at BitFlags signal by) in
    let noted : (words : List ℕ) → record_on s.seat (record_in s) (take_of core true ∷ loads_of (line_of_word place) words) ≡ noted_under s.seat (record_in s) r words
    = λ words. bit_noted s.seat (record_in s) r signal by words valid bits moves.below (hands core) in
    let turns : TurnsOver s place by set
    = λ words loaded. moves.turns words (subst (λ (x : Record). IsSound s.seat.setup s.seat.rank x) (noted words) loaded.sound) in
    record {
      empty = empty;
      permitted = (
        subst (λ (o : Option FlagWords). IsTrue (is_none o)) (sym (hands core)) refl,
        λ words loaded. subst (λ (x : Record). MayMake s.seat x (store_of place (with_bit by set (slice_index words (signal_word signal))))) (sym (noted words))
            (moves.stored words (turns words loaded)).may,
      );
      turns = turns;
    }

-- the record permits the change
pub may_change : (s : Sight) (c : Private) (r : ℕ) (signal : Signal) (by : ℕ) (set : Bool) (move : Move) → IsSetup s.seat.setup → HoldsNone s.seat.setup.layout (record_in s) → c.out ≡ None
    → MovesFlag s.seat.setup.layout s.seat (record_in s) r signal by set move → MayChange s c (core_of s.seat r) (signal_flag s.seat signal by) set
may_change s c r signal by set move valid hands empty moves = may_change_by s.seat.setup.layout s c r signal by set move refl valid hands empty moves

pub flag_moved_by : (layout : Layout) (s t : Sight) (c d : Private) (r : ℕ) (signal : Signal) (by : ℕ) (set : Bool) (move : Move) → s.seat.setup.layout ≡ layout → IsSetup s.seat.setup
    → HoldsNoneBy layout (record_in s).held → c.out ≡ None → MovesFlag layout s.seat (record_in s) r signal by set move
    → ChangesBy layout s c (core_of s.seat r) signal by set true t d → record_in t ≡ after (chunk_of s.seat.setup) move (record_in s)
flag_moved_by LineFlags s t c d r signal by set move lines valid hands empty moves (done, writes) =
    let store = store_of (flag_word (core_of s.seat r) (signal_at LineFlags signal by)) (if set then 1 else 0) in
    record_did_one s store t (subst (λ (o : Option Out). Did s (stores_of o ++ store ∷ []) t) empty writes.did) ∙ moves.becomes
flag_moved_by BitFlags s t c d r signal by set move bits valid hands empty moves (RegisterTaken missed did e, turns) = absurd (cc)
flag_moved_by BitFlags s t c d r signal by set move bits valid hands empty moves (BitChanged made words loaded did m fills e, turns) =
    let core = core_of s.seat r in
    let place = flag_word core (signal_at BitFlags signal by) in
    let new = with_bit by set (slice_index words (signal_word signal)) in
    let flags = both_noted (slice_index words 0) (slice_index words 1) in
    record_did s _ t did
    ∙ record_on-append s.seat (record_in s) (take_of core true ∷ loads_of (line_of_word place) words) (store_of place new ∷ free_of core ∷ [])
    ∙ ap (λ (x : Record). record_on s.seat x (store_of place new ∷ free_of core ∷ [])) (bit_noted s.seat (record_in s) r signal by words valid bits moves.below (hands core))
    ∙ move_made s.seat (record_in s) core flags moves.forget move (store_of place new) valid (hands core) (moves.apart flags) (moves.stored words (turns words loaded)).becomes

-- the record after the change
pub flag_moved : (s t : Sight) (c d : Private) (r : ℕ) (signal : Signal) (by : ℕ) (set : Bool) (move : Move) → IsSetup s.seat.setup → HoldsNone s.seat.setup.layout (record_in s) → c.out ≡ None
    → MovesFlag s.seat.setup.layout s.seat (record_in s) r signal by set move → Changes s c (core_of s.seat r) (signal_flag s.seat signal by) set true t d
    → record_in t ≡ after (chunk_of s.seat.setup) move (record_in s)
flag_moved s t c d r signal by set move valid hands empty moves changes = flag_moved_by s.seat.setup.layout s t c d r signal by set move refl valid hands empty moves changes

-- ---- the two changes of a signal's flag

-- lowering and raising ask nothing of a register that is held, and leave it
lower_apart : (size : ℕ) (signal : Signal) (by : ℕ) (rec : Record) (core : ℕ) (flags : FlagWords)
    → (after size (LowerSignal signal by) (with_hold rec core flags) ≡ with_hold (after size (LowerSignal signal by) rec) core flags)
    × (permits size (LowerSignal signal by) rec ≡ true → permits size (LowerSignal signal by) (with_hold rec core flags) ≡ true)
lower_apart size Sent by rec core flags = (refl, λ may. may)
lower_apart size Ready by rec core flags = (refl, λ may. may)

raise_apart : (size : ℕ) (signal : Signal) (at : ℕ) (rec : Record) (core : ℕ) (flags : FlagWords)
    → (after size (RaiseSignal signal at) (with_hold rec core flags) ≡ with_hold (after size (RaiseSignal signal at) rec) core flags)
    × (permits size (RaiseSignal signal at) rec ≡ true → permits size (RaiseSignal signal at) (with_hold rec core flags) ≡ true)
raise_apart size Sent at rec core flags = (refl, λ may. may)
raise_apart size Ready at rec core flags = (refl, λ may. may)

-- a rank lowers the flag of a signal at its own core, where what it noted of it says that it is set
pub signal_lowers : (layout : Layout) (s : Sight) (signal : Signal) (by : ℕ) → s.seat.setup.layout ≡ layout → IsSetup s.seat.setup → are_peers s.seat.setup s.seat.rank by ≡ true
    → ((words : List ℕ) → IsSound s.seat.setup s.seat.rank (noted_under s.seat (record_in s) s.seat.rank words) → bit_at (slice_index words (signal_word signal)) by ≡ 1)
    → permits (chunk_of s.seat.setup) (LowerSignal signal by) (record_in s) ≡ true
    → MovesFlag layout s.seat (record_in s) s.seat.rank signal by false (LowerSignal signal by)
signal_lowers LineFlags s signal by lines valid peers set may = signal_lowered s.seat (record_in s) valid lines signal by peers may
signal_lowers BitFlags s signal by bits valid peers set may =
    let p = peers_are s.seat.setup s.seat.rank by peers in
    let core = own_core s.seat in
    record {
      below = p.one;
      forget = forget_flags signal;
      apart = λ flags. (lower_apart (chunk_of s.seat.setup) signal by (record_in s) core flags).0;
      turns = set;
      stored = λ words is_set.
          let word = slice_index words (signal_word signal) in
          signal_bit_lowered s.seat (noted_under s.seat (record_in s) s.seat.rank words) valid bits signal by word (with_bit by false word) peers
          (is_noted signal (record_in s) core words) is_set (bit_taken word by is_set)
          ((lower_apart (chunk_of s.seat.setup) signal by (record_in s) core (both_noted (slice_index words 0) (slice_index words 1))).1 may);
    }

-- a rank raises its flag of a signal at the core of another rank, where what it noted of it says that it is clear
pub signal_raises : (layout : Layout) (s : Sight) (signal : Signal) (at : ℕ) → s.seat.setup.layout ≡ layout → IsSetup s.seat.setup → are_peers s.seat.setup s.seat.rank at ≡ true
    → ((words : List ℕ) → IsSound s.seat.setup s.seat.rank (noted_under s.seat (record_in s) at words) → bit_at (slice_index words (signal_word signal)) s.seat.rank ≡ 0)
    → permits (chunk_of s.seat.setup) (RaiseSignal signal at) (record_in s) ≡ true
    → MovesFlag layout s.seat (record_in s) at signal s.seat.rank true (RaiseSignal signal at)
signal_raises LineFlags s signal at lines valid peers clear may = signal_raised s.seat (record_in s) valid lines signal at peers may
signal_raises BitFlags s signal at bits valid peers clear may =
    let p = peers_are s.seat.setup s.seat.rank at peers in
    let core = core_of s.seat at in
    record {
      below = p.other;
      forget = forget_flags signal;
      apart = λ flags. (raise_apart (chunk_of s.seat.setup) signal at (record_in s) core flags).0;
      turns = clear;
      stored = λ words is_clear.
          let rec : Record = noted_under s.seat (record_in s) at words in
          let word = slice_index words (signal_word signal) in
          subst (λ v. Makes s.seat rec (store_of (flag_word core (signal_at BitFlags signal s.seat.rank)) v) (change_held (forget_flags signal) core (after (chunk_of s.seat.setup) (RaiseSignal signal at) rec)))
          (sym (bit_given word s.seat.rank is_clear))
          (signal_bit_raised s.seat rec valid bits signal at word peers (is_noted signal (record_in s) core words) is_clear
          ((raise_apart (chunk_of s.seat.setup) signal at (record_in s) core (both_noted (slice_index words 0) (slice_index words 1))).1 may));
    }

-- ---- what a sound record says of them

-- a receiver has noted what it saw of `sent`
pub sent_turns : (s : Sight) (from : ℕ) (header : Notes) → (record_in s).notes from ≡ Some header
    → (words : List ℕ) → IsSound s.seat.setup s.seat.rank (noted_under s.seat (record_in s) s.seat.rank words) → bit_at (slice_index words 0) from ≡ 1
sent_turns s from header seen words sound = sound.sent_set from (slice_index words 0) header (is_noted Sent (record_in s) (own_core s.seat) words) seen

-- a sender has seen `ready`
pub ready_turns : (s : Sight) (by : ℕ) → is_answered by (record_in s).stage (record_in s).post ≡ true
    → (words : List ℕ) → IsSound s.seat.setup s.seat.rank (noted_under s.seat (record_in s) s.seat.rank words) → bit_at (slice_index words 1) by ≡ 1
ready_turns s by seen words sound = sound.ready_set by (slice_index words 1) (is_noted Ready (record_in s) (own_core s.seat) words) seen

-- a receiver takes the chunk
pub ready_is_clear : (s : Sight) (to : ℕ) → is_taking_from to (record_in s).stage ≡ true
    → (words : List ℕ) → IsSound s.seat.setup s.seat.rank (noted_under s.seat (record_in s) to words) → bit_at (slice_index words 1) s.seat.rank ≡ 0
ready_is_clear s to taking words sound = sound.ready_clear to (slice_index words 1) (is_noted Ready (record_in s) (core_of s.seat to) words) taking

-- no chunk of the sender is raised
pub sent_is_clear : (s : Sight) (to : ℕ) → are_peers s.seat.setup s.seat.rank to ≡ true → is_drafting (record_in s).stage (record_in s).post ≡ true
    → (words : List ℕ) → IsSound s.seat.setup s.seat.rank (noted_under s.seat (record_in s) to words) → bit_at (slice_index words 0) s.seat.rank ≡ 0
sent_is_clear s to peers drafting words sound = sound.sent_clear to (slice_index words 0) peers (is_noted Sent (record_in s) (core_of s.seat to) words) drafting
