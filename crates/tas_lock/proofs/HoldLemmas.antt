-- What a take and a free of a register do to the record of the rank that makes them.
use Rattle.std.proofs.Common.{◌≡◌, ℕ, Bool, true, false, [], ◌∷◌, Option, None, is_some, is_none, ◌∙◌, ap}
use Rattle.scc_base.specs.Events.{take_of, free_of}
use Rattle.scc_proto.specs.Stages.{FlagWords, Record}
use Rattle.scc_proto.specs.Records.{act_of}
use Rattle.scc_proto.specs.Ports.{Seat, Sight, Did, record_in, record_next}
use Rattle.scc_proto.proofs.Layouts.Roles.{if_yes}
use Rattle.scc_proto.proofs.PortLaws.{record_did_one}
use Rattle.scc_proto.proofs.Tests.{put_here}
use Rattle.tas_lock.specs.Holds.{IsHolding, IsNotHolding, after_try, record_after_release}

pub next_tried : (seat : Seat) (rec : Record) (core : ℕ) (taken : Bool) → IsNotHolding rec core → record_next seat rec (take_of core taken) ≡ after_try core taken rec
unfolding record_next act_of
next_tried seat rec core true free = if_yes (is_none (rec.held core)) _ rec free
next_tried seat rec core false free = if_yes (is_none (rec.held core)) _ rec free

pub next_freed : (seat : Seat) (rec : Record) (core : ℕ) → IsHolding rec core → record_next seat rec (free_of core) ≡ record_after_release core rec
unfolding record_next act_of
next_freed seat rec core held = if_yes (is_some (rec.held core)) _ rec held

pub tried : (s t : Sight) (core : ℕ) (taken : Bool) → IsNotHolding (record_in s) core → Did s (take_of core taken ∷ []) t
    → record_in t ≡ after_try core taken (record_in s)
tried s t core taken free did = record_did_one s (take_of core taken) t did ∙ next_tried s.seat (record_in s) core taken free

pub freed : (s t : Sight) (core : ℕ) → IsHolding (record_in s) core → Did s (free_of core ∷ []) t
    → record_in t ≡ record_after_release core (record_in s)
freed s t core held did = record_did_one s (free_of core) t did ∙ next_freed s.seat (record_in s) core held

-- a register that was freed is not held
pub not_held_after : (rec : Record) (core : ℕ) → IsNotHolding (record_after_release core rec) core
not_held_after rec core = ap (λ (o : Option FlagWords). is_none o) (put_here rec.held core None)
