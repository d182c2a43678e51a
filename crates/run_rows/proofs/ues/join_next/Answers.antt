use Rattle.std.proofs.Common.{[], sym, subst}
use Rattle.rcce_ue.specs.Standing.{Tied}
use Rattle.chip_teams.specs.Teams.{TeamView, sight_alone}
use Rattle.run_rows.proofs.ues.join_next.Goals as goal

pub join-requires : goal.join-requires
join-requires g c = record {
  stands = subst (λ (t : TeamView). Tied c.in_ok-runner_of.field-0.ue (sight_alone t.about t.size [])) (sym c.requires.next) c.in_ok-runner_of.ensures.fits;
}
