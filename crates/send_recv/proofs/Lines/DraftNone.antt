-- Looks at flags and changes of them store no word of a message.
use Rattle.std.proofs.Common.{◌≡◌, ℕ, Bool, true, false, not, ◌&&◌, if◌then◌else◌, List, [], ◌∷◌, ◌++◌, Option, Some, None, refl, ◌∙◌, ap, subst}
use Rattle.std.specs.List.{list_all}
use Rattle.scc_base.specs.Places.{LineAt, FlagPlace, flag_word}
use Rattle.scc_base.specs.Setups.{SetupView, IsSetup}
use Rattle.scc_base.specs.Events.{store_of, take_of}
use Rattle.scc_base.specs.declared.events.Event.{Event}
use Rattle.scc_base.specs.declared.layouts.Layout.{Layout}
use Rattle.scc_base.specs.declared.layouts.Layout.TheVariants.{LineFlags, BitFlags}
use Rattle.scc_base.specs.declared.signals.Signal.{Signal}
use Rattle.scc_proto.specs.Words.{role_of, are_peers}
use Rattle.scc_proto.specs.Ports.{Seat, Sight, Did}
use Rattle.scc_proto.proofs.Layouts.Roles.{signal_role, role_signal}
use Rattle.write_combine.specs.declared.combiner.Out.{Out}
use Rattle.put_get.specs.Accesses.{loads_of, stores_of}
use Rattle.put_get.specs.Cores.{Private}
use Rattle.put_get.proofs.StepLemmas.{events_once}
use Rattle.sync_flags.specs.Writes.{change_events, RegisterTaken, BitChanged, ChangesFlag}
use Rattle.send_recv.specs.Flags.{Changes}
use Rattle.send_recv.specs.Steps.{core_of, signal_flag}
use Rattle.scc_proto.specs.Drafts.{is_message_word}
use Rattle.send_recv.specs.Turns.{is_no_draft}

-- the word of a flag is no word of a message
abbrev pub IsFlagWord : SetupView → ℕ → FlagPlace → Type 0
IsFlagWord setup core flag = is_message_word (role_of setup (flag_word core flag)) ≡ false

signal_no_message : (layout : Layout) (signal : Signal) (by at : ℕ) → is_message_word (signal_role layout signal by at) ≡ false
signal_no_message LineFlags signal by at = refl
signal_no_message BitFlags signal by at = refl

pub signal_is_flag : (seat : Seat) → IsSetup seat.setup → (signal : Signal) (by at : ℕ) → are_peers seat.setup by at ≡ true → IsFlagWord seat.setup (core_of seat at) (signal_flag seat signal by)
signal_is_flag seat valid signal by at peers = ap is_message_word (role_signal seat.setup valid signal by at peers) ∙ signal_no_message seat.setup.layout signal by at

pub look_drafts_none : (setup : SetupView) (line : LineAt) (words : List ℕ) → list_all (is_no_draft setup) (loads_of line words) ≡ true
look_drafts_none setup line words = refl

pub store_drafts_none : (setup : SetupView) (core : ℕ) (flag : FlagPlace) (value : ℕ) → IsFlagWord setup core flag → list_all (is_no_draft setup) (store_of (flag_word core flag) value ∷ []) ≡ true
store_drafts_none setup core flag value is = ap (λ b. not b && true) is

bit_drafts_none : (setup : SetupView) (core : ℕ) (flag : FlagPlace) (b : ℕ) (set : Bool) (words : List ℕ) → IsFlagWord setup core flag → list_all (is_no_draft setup) (change_events (flag_word core flag) b set words) ≡ true
bit_drafts_none setup core flag b set words is = ap (λ b. not b && true) is

-- of a change that began with nothing in the buffer
pub drafts_none_by : (bit : Option ℕ) (s t : Sight) (c d : Private) (core : ℕ) (flag : FlagPlace) (set done : Bool) → c.out ≡ None → IsFlagWord s.seat.setup core flag → ChangesFlag s c (flag_word core flag) bit set done t d
    → (events : List Event) → Did s events t → list_all (is_no_draft s.seat.setup) events ≡ true
drafts_none_by None s t c d core flag set done empty is (e, writes) events did =
    let one : Did s (store_of (flag_word core flag) (if set then 1 else 0) ∷ []) t = subst (λ (o : Option Out). Did s (stores_of o ++ (store_of (flag_word core flag) (if set then 1 else 0)) ∷ []) t) empty writes.did in
    subst (λ es. list_all (is_no_draft s.seat.setup) es ≡ true) (events_once s t (store_of (flag_word core flag) (if set then 1 else 0) ∷ []) events one did)
    (store_drafts_none s.seat.setup core flag (if set then 1 else 0) is)
drafts_none_by (Some b) s t c d core flag set done empty is (RegisterTaken missed one e, turns) events did =
    subst (λ es. list_all (is_no_draft s.seat.setup) es ≡ true) (events_once s t (take_of core false ∷ []) events one did) refl
drafts_none_by (Some b) s t c d core flag set done empty is (BitChanged made words loaded one m fills e, turns) events did =
    subst (λ es. list_all (is_no_draft s.seat.setup) es ≡ true) (events_once s t (change_events (flag_word core flag) b set words) events one did) (bit_drafts_none s.seat.setup core flag b set words is)

pub change_drafts_none : (s t : Sight) (c d : Private) (core : ℕ) (flag : FlagPlace) (set done : Bool) → c.out ≡ None → IsFlagWord s.seat.setup core flag → Changes s c core flag set done t d
    → (events : List Event) → Did s events t → list_all (is_no_draft s.seat.setup) events ≡ true
change_drafts_none s t c d core flag set done empty is changes events did = drafts_none_by flag.bit s t c d core flag set done empty is changes events did
