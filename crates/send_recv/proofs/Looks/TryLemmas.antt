-- The tries in the loads of a flag's line, and what a line that came in leaves of the cache.
use Rattle.std.proofs.Common.{◌≡◌, ◌≢◌, ℕ, ◌<◌, ◌≤◌, Bool, true, false, not, if◌then◌else◌, List, [], Option, Some, None, unwrap_or, refl, sym, ◌∙◌, ap, subst, arith, slice_index}
use Rattle.scc_base.specs.Places.{LineAt, FlagPlace, flag_word, line_of_word}
use Rattle.scc_base.specs.Layouts.{signal_at}
use Rattle.scc_base.specs.declared.signals.Signal.{Signal}
use Rattle.scc_base.specs.declared.signals.Signal.TheVariants.{Sent, Ready}
use Rattle.scc_base.specs.declared.events.Spot.{Spot}
use Rattle.scc_base.specs.declared.events.Spot.TheVariants.{Register}
use Rattle.scc_base.specs.declared.layouts.Layout.{Layout}
use Rattle.scc_base.specs.declared.layouts.Layout.TheVariants.{LineFlags, BitFlags}
use Rattle.scc_proto.specs.Ports.{Seat}
use Rattle.put_get.specs.Accesses.{loads_of}
use Rattle.put_get.specs.Cores.{Private, Fills}
use Rattle.put_get.proofs.FillLemmas.{fills_held}
use Rattle.sync_flags.specs.Flags.{is_set_in}
use Rattle.sync_flags.specs.Tries.{Aim, AtFlag, tries_at, all_failed, spot_of, Tried, Failed, Fruitful}
use Rattle.sync_flags.proofs.RowLemmas.{flag_tried}
use Rattle.send_recv.specs.declared.stages.RecvStage.{RecvStage}
use Rattle.send_recv.specs.declared.stages.RecvStage.TheVariants.{Look, Header, Lower, Lines, Raise, Finished}
use Rattle.send_recv.specs.Ops.{RecvAt}
use Rattle.send_recv.specs.Receiving.{spot_by, recv_spot, IsRecvSpot}
use Rattle.send_recv.specs.Steps.{own_core, core_of, signal_flag, flag_spot}
use Rattle.send_recv.specs.Tries.{aim_of, aim_at}
use Rattle.send_recv.specs.Turns.{LastHeld, Last}

-- the loads of a flag's line are one look at the flag, vain where the flag is not set
pub look_tried : (layout : Layout) (core : ℕ) (flag : FlagPlace) (words : List ℕ) (found : Bool) (spot : Option Spot) → flag.word < 4 → found ≡ is_set_in flag.bit (slice_index words flag.word)
    → spot ≡ Some (flag_spot core flag) → aim_of layout (flag_spot core flag) ≡ AtFlag (flag_word core flag) flag.bit true
    → Tried (aim_at layout spot) (loads_of (line_of_word (flag_word core flag)) words) (if found then None else Some (flag_spot core flag))
look_tried layout core flag words found spot below tells at aims = by found tells
  where
    aimed : aim_at layout spot ≡ Some (AtFlag (flag_word core flag) flag.bit true)
    aimed = ap (λ (o : Option Spot). aim_at layout o) at ∙ ap (λ (x : Aim). Some x) aims

    tried : (tries_at (AtFlag (flag_word core flag) flag.bit true) (loads_of (line_of_word (flag_word core flag)) words) ≡ 1)
        × (all_failed (AtFlag (flag_word core flag) flag.bit true) false (loads_of (line_of_word (flag_word core flag)) words)
        ≡ not (is_set_in flag.bit (slice_index words flag.word)))
    tried = flag_tried (flag_word core flag) flag.bit true words below

    by : (b : Bool) → b ≡ is_set_in flag.bit (slice_index words flag.word)
        → Tried (aim_at layout spot) (loads_of (line_of_word (flag_word core flag)) words) (if b then None else Some (flag_spot core flag))
    by true t = Fruitful (AtFlag (flag_word core flag) flag.bit true) aimed tried.0 (tried.1 ∙ ap (λ (x : Bool). not x) (sym t)) refl
    by false t = Failed (AtFlag (flag_word core flag) flag.bit true) aimed tried.0 (tried.1 ∙ ap (λ (x : Bool). not x) (sym t)) refl

-- a try at the spot of a signal's flag is one at the flag
pub signal_aims : (layout : Layout) (signal : Signal) (core j : ℕ)
    → aim_of layout (flag_spot core (signal_at layout signal j)) ≡ AtFlag (flag_word core (signal_at layout signal j)) (signal_at layout signal j).bit true
signal_aims LineFlags signal core j = refl
signal_aims BitFlags signal core j = refl

-- the spot of a signal's flag is that of the try at it
pub signal_aimed : (layout : Layout) (signal : Signal) (core j : ℕ) → flag_spot core (signal_at layout signal j) ≡ spot_of (aim_of layout (flag_spot core (signal_at layout signal j)))
signal_aimed layout signal core j = ap (λ (a : Aim). spot_of a) (sym (signal_aims layout signal core j))

-- a spot of a receive is the flag that it looks at, or a register
pub spot_cases : (P : Spot → Type 0) (layout : Layout) (own other from : ℕ) (stage : RecvStage) (at : Spot) → spot_by layout own other from stage ≡ Some at
    → P (flag_spot own (signal_at layout Sent from)) → ((core : ℕ) → P (Register core)) → P at
spot_cases P LineFlags own other from Look at e flag register = subst P (ap (λ (o : Option Spot). unwrap_or o (flag_spot own (signal_at LineFlags Sent from))) e) flag
spot_cases P LineFlags own other from Header at e flag register = absurd (cc)
spot_cases P LineFlags own other from Lower at e flag register = absurd (cc)
spot_cases P LineFlags own other from (Lines i) at e flag register = absurd (cc)
spot_cases P LineFlags own other from Raise at e flag register = absurd (cc)
spot_cases P LineFlags own other from Finished at e flag register = absurd (cc)
spot_cases P BitFlags own other from Look at e flag register = subst P (ap (λ (o : Option Spot). unwrap_or o (flag_spot own (signal_at BitFlags Sent from))) e) flag
spot_cases P BitFlags own other from Header at e flag register = absurd (cc)
spot_cases P BitFlags own other from Lower at e flag register = subst P (ap (λ (o : Option Spot). unwrap_or o (Register own)) e) (register own)
spot_cases P BitFlags own other from (Lines i) at e flag register = absurd (cc)
spot_cases P BitFlags own other from Raise at e flag register = subst P (ap (λ (o : Option Spot). unwrap_or o (Register other)) e) (register other)
spot_cases P BitFlags own other from Finished at e flag register = absurd (cc)

-- a look at `sent` is no try at another spot of the receive
pub look_elsewhere : (seat : Seat) (op : RecvAt) (core : ℕ) (words : List ℕ) (at : Spot) → recv_spot seat op ≡ Some (flag_spot (own_core seat) (signal_flag seat Sent op.from))
    → IsRecvSpot seat op at → recv_spot seat op ≢ Some at
    → tries_at (aim_of seat.setup.layout at) (loads_of (line_of_word (flag_word core (signal_flag seat Sent op.from))) words) ≡ 0
look_elsewhere seat op core words at is spot ne =
    spot_cases (λ (x : Spot). recv_spot seat op ≢ Some x → tries_at (aim_of seat.setup.layout x) (loads_of (line_of_word (flag_word core (signal_flag seat Sent op.from))) words) ≡ 0)
    seat.setup.layout (own_core seat) (core_of seat op.from) op.from spot.0 at spot.1 (λ other. absurd (other is)) (λ register other. refl) ne

pub le_self : (n : ℕ) → n ≤ n
le_self n = omega arith

pub signal_low : (layout : Layout) (signal : Signal) (j : ℕ) → (signal_at layout signal j).word < 4
signal_low LineFlags signal j = omega arith
signal_low BitFlags Sent j = omega arith
signal_low BitFlags Ready j = omega arith

-- ---- the cache after a look

-- a line that came into an empty cache stands there, unless lines were evicted
pub look_held : (c d : Private) (line : LineAt) (words : List ℕ) → Fills (record c { lines = [] }) line words d → LastHeld (loads_of line words) c.evictions d
look_held c d line words fills = Last [] line words [] refl refl (λ same. fills_held fills refl same)
