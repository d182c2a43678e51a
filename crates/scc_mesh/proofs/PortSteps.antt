-- A step of a port on its chip.
use Rattle.std.proofs.Common.{◌≡◌, ℕ, [], ◌∷◌, None, refl, sym, ◌∙◌, ap, subst}
use Rattle.scc_base.specs.Setups.{SetupView}
use Rattle.scc_base.specs.declared.events.Event.{Event}
use Rattle.scc_proto.specs.Records.{IsPermitted, record_of}
use Rattle.scc_proto.specs.Soundness.{IsSound}
use Rattle.scc_proto.specs.Ports.{Did, MayMake, IsSoundPort, record_in, and_then}
use Rattle.scc_mesh.specs.SeatViews.{SeatView, list_at, without}
use Rattle.scc_mesh.specs.Keeping.{Made}
use Rattle.scc_mesh.specs.Scenes.{ChipView, about_in, table_in, home_in, events_in, mark_of, rest_of_seats, view_coded, WasSeatStep, sight_in}
use Rattle.scc_mesh.proofs.ViewLemmas.{known_there, set_twice}

module _ (old new : ChipView) (r hold : ℕ) (e : Event) (made : Made (about_in old) r (home_in old) e (home_in new)) (about_same : about_in new ≡ about_in old) (table_same : table_in new ≡ table_in old) where
  same_rest : rest_of_seats (home_in new) r ≡ rest_of_seats (home_in old) r
  same_rest = ap view_coded.code (ap (λ (v : SeatView). without v r) made.view ∙ set_twice (home_in old) r _ _)

  continues : sight_in new r hold ≡ and_then (sight_in old r hold) (e ∷ [])
  continues = λ i. record {
    seat = record { setup = about_same i; rank = r; mark = mark_of (table_same i); rest = same_rest i; hold = hold };
    events = made.list i;
  }

  pub port_did : MayMake (sight_in old r hold).seat (record_in (sight_in old r hold)) e → Did (sight_in old r hold) (e ∷ []) (sight_in new r hold)
  unfolding record_in
  port_did may = record { continues = continues; made = (record { permitted = may; honest = made.honest }, tt) }

  pub port_sound : IsSoundPort (sight_in new r hold)
  unfolding record_in
  port_sound = subst (λ (s : SetupView). IsSound s r (record_of s r (list_at (home_in new) r))) (sym about_same) made.sound

  pub port_step : WasSeatStep (sight_in old r hold).seat (events_in old r) e
  port_step = record {
    resting = without (home_in old) r;
    rest = refl;
    step = record {
      memory = made.step.memory;
      lists = made.step.lists;
      own = made.step.own;
      others = λ q list ne is. made.step.others q list ne (sym (known_there (home_in old) r None q ne) ∙ is);
      before = made.step.before;
      step = made.step.step;
      after = made.step.after;
    };
  }

-- what a port's caller may do, as the chip asks it
pub may_make : (chip : ChipView) (r hold : ℕ) (e : Event) → MayMake (sight_in chip r hold).seat (record_in (sight_in chip r hold)) e
    → IsPermitted (about_in chip) r (record_of (about_in chip) r (events_in chip r)) e
unfolding record_in
may_make chip r hold e may = may
