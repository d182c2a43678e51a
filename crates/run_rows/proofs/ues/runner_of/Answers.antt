use Rattle.std.proofs.Common.{[], refl, sym}
use Rattle.chip_teams.specs.Teams.{sight_alone}
use Rattle.run_rows.proofs.ues.runner_of.Goals as goal

pub returns : goal.returns
returns g c = record {
  fits = c.in_ok-ue.ensures.tied (sight_alone c.args.setup.now c.args.number []) (sym c.copy.ensures.gives) (sym c.of.ensures.gives) refl;
}
