-- A bounded loop of turns: what the turns so far have made, the row of vain tries at their end, and why the loop ends.
use Rattle.std.proofs.Common.{◌≡◌, ℕ, ◌+◌, ◌-◌, ◌*◌, ◌<◌, ◌≤◌, Bool, true, false, List, [], ◌++◌, Option, Some, refl, sym, ◌∙◌, ap, subst, arith}
use Rattle.std.proofs.Math.Nat.{add-mul}
use Rattle.scc_base.specs.declared.events.Event.{Event}
use Rattle.scc_base.specs.declared.events.Spot.{Spot}
use Rattle.scc_proto.specs.Ports.{Sight, Did}
use Rattle.scc_proto.proofs.PortLaws.{did_nothing, did_both}
use Rattle.sync_flags.specs.Tries.{Aim, Tried, tries_at, failed_tries, all_failed, changing_after, has_write}
use Rattle.sync_flags.proofs.RowLemmas.{changing-append, one_more, some_aim, waited}

-- no bit flag is left half changed by the one events and the others
pub freed_both : (a b : List Event) → changing_after false a ≡ false → changing_after false b ≡ false → changing_after false (a ++ b) ≡ false
freed_both a b x y = changing-append false a b ∙ ap (λ (c : Bool). changing_after c b) x ∙ y

-- the turns so far, of which so many at the end were vain in a row, at what the next turn tries for
pub record Row (aim : Option Aim) (failed : ℕ) (s t : Sight) : Type 0 where
  pub events : List Event
  pub did : Did s events t
  pub freed : changing_after false events ≡ false
  pub tried : (at : Aim) → aim ≡ Some at → failed ≤ failed_tries at events

unfoldable pub row_none : {aim : Option Aim} {s : Sight} → Row aim 0 s s
row_none {s = s} = record { events = []; did = did_nothing s; freed = refl; tried = λ at is. omega arith }

-- a turn that goes on begins the row anew
unfoldable pub row_moved : {aim next : Option Aim} {failed : ℕ} {s m t : Sight} {events : List Event} → Row aim failed s m → Did m events t → changing_after false events ≡ false → Row next 0 s t
row_moved {s = s} {m = m} {t = t} {events = events} row did freed = record {
  events = row.events ++ events;
  did = did_both s row.events m events t row.did did;
  freed = freed_both row.events events row.freed freed;
  tried = λ at is. omega arith;
}

-- a turn that waits makes it longer by one
unfoldable pub row_waited : {aim next : Option Aim} {failed : ℕ} {s m t : Sight} {events : List Event} {spot : Spot} → Row aim failed s m → Did m events t → changing_after false events ≡ false
    → Tried aim events (Some spot) → has_write events ≡ false → next ≡ aim → Row next (failed + 1) s t
row_waited {aim} {failed = failed} {s = s} {m = m} {t = t} {events = events} row did freed tried quiet same =
    let w = waited tried in
    record {
      events = row.events ++ events;
      did = did_both s row.events m events t row.did did;
      freed = freed_both row.events events row.freed freed;
      tried = λ at is.
          let here : aim ≡ Some at = sym same ∙ is in
          let e : w.at ≡ at = some_aim w.at at (sym w.is ∙ here) in
          one_more at failed row.events events row.freed (row.tried at here)
          (subst (λ (a : Aim). tries_at a events ≡ 1) e w.one) (subst (λ (a : Aim). all_failed a false events ≡ true) e w.failed) quiet;
    }

-- a loop that allows a number of vain tries in a row: a turn that goes on has one turn less behind it, and begins the
-- row anew
pub measure_falls : (left now polls failed : ℕ) → left ≡ now + 1 → failed < polls → now * polls + (polls - 0) < left * polls + (polls - failed)
measure_falls left now polls failed e low =
    let product : left * polls ≡ now * polls + 1 * polls = ap (λ (x : ℕ). x * polls) e ∙ add-mul now 1 polls in omega (arith, product, low)
