use Rattle.std.proofs.Common.{List, sym, subst}
use Rattle.rcce_ue.specs.Ues.{UeView}
use Rattle.rcce_run.specs.UeRuns.{IsFreshCrew}
use Rattle.chip_run.specs.declared.members.Member.{Member}
use Rattle.run_rows.proofs.open_sends.words_after.Goals as goal

pub run-requires-clause-fresh : goal.run-requires-clause-fresh
run-requires-clause-fresh g c =
    let script = c.args.scripts.now in
    let chip = c.args.chip.now in
    λ lifetimes outlive. (
      script,
      subst (λ (crew : List (Member UeView)). IsFreshCrew script chip crew) (sym c.as_mut_slice.ensures.value) (c.in_ok-crew.ensures.fresh chip c.requires.new),
    )
