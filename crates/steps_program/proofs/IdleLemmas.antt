-- Ports after accesses.
use Rattle.std.proofs.Common.{◌≡◌, ℕ, suc, ◌+◌, List, [], ◌∷◌, ◌++◌, refl, sym, ◌∙◌, ap, append_assoc, append-nil, arith}
use Rattle.scc_base.specs.Setups.{host_of}
use Rattle.scc_base.specs.declared.events.Event.{Event}
use Rattle.scc_proto.specs.Ports.{Sight, Did}
use Rattle.scc_proto.specs.IdlePorts.{IsIdle}
use Rattle.scc_proto.proofs.PortLaws.{seat_kept, events_did}
use Rattle.scc_proto.proofs.Runs.IdleLaws.{idle_at_start}
use Rattle.scc_mesh.specs.AwayRanks.{Ticket, Away}
use Rattle.scc_mesh.specs.Scenes.{ChipView, about_in, table_in, events_in, sight_in, sight_away}
use Rattle.scc_mesh.proofs.HandOuts.{same_ticket}
use Rattle.steps_program.specs.declared.accesses.Kind.{Kind}
use Rattle.steps_program.specs.Steps.{access_step, access_steps, step_at, in_turn, home_core, Stepped, HasMadeAway}

pub idle_home : (chip new : ChipView) (r hold : ℕ) → new ≡ chip → ((q : ℕ) → events_in chip q ≡ []) → IsIdle (sight_in new r hold)
idle_home chip new r hold same empty = idle_at_start (sight_in new r hold) (ap (λ (c : ChipView). events_in c r) same ∙ empty r)

steps-append : (a b : List Event) → access_steps (a ++ b) ≡ access_steps a ++ access_steps b
steps-append [] b = refl
steps-append (e ∷ a) b = λ i. access_step e ∷ steps-append a b i

-- a port before any access
pub no_step : (start : Sight) (kind : Kind) → Stepped start kind 0 start
unfolding in_turn
no_step start kind = record { seat = refl; steps = sym (append-nil (access_steps start.events)) }

-- one more access of a port of the same rank
pub step_more : (start old : Sight) (kind : Kind) (count : ℕ) (e : Event) (new : Sight) → Stepped start kind count old → access_step e ≡ step_at kind (home_core start) count
    → Did old (e ∷ []) new → Stepped start kind (count + 1) new
unfolding in_turn
step_more start old kind count e new before is did =
    let core = home_core start in
    let next : suc count ≡ count + 1 = omega arith in
    record {
      seat = seat_kept old (e ∷ []) new did ∙ before.seat;
      steps = ap access_steps (events_did old (e ∷ []) new did) ∙ steps-append old.events (e ∷ []) ∙ (λ i. before.steps i ++ is i ∷ [])
          ∙ append_assoc (access_steps start.events) (in_turn kind core count) (step_at kind core count ∷ []) ∙ ap (λ n. access_steps start.events ++ in_turn kind core n) next;
    }

-- a rank whose port is in a thread, after this many accesses
pub away_made : (chip : ChipView) (token : Ticket) (old new : Away) (kind : Kind) (count : ℕ) → Stepped (sight_away old.about old.ticket) kind count (sight_away new.about new.ticket)
    → old.ticket.events ≡ [] → old.ticket.rank ≡ 0 → old.ticket.table ≡ table_in chip → old.about ≡ about_in chip → token ≡ new.ticket → HasMadeAway chip token kind count
away_made chip token old new kind count stepped none rank table about is =
    let kept = same_ticket old new stepped.seat in record {
      of_chip = ap (λ (t : Ticket). t.table) is ∙ kept.0 ∙ table;
      rank = ap (λ (t : Ticket). t.rank) is ∙ kept.1 ∙ rank;
      steps = ap (λ (t : Ticket). access_steps t.events) is ∙ stepped.steps ∙ (λ i. access_steps (none i) ++ in_turn kind (host_of (about i).hosts (rank i)) count);
    }
