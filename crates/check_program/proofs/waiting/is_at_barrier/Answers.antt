use Rattle.std.proofs.Common.{sym, ◌∙◌, ap}
use Rattle.plain_meaning.specs.HeldUp.{is_barrier_of, ended_at_barrier}
use Rattle.check_program.proofs.waiting.is_at_barrier.Goals as goal

-- Names the goal, so that the prover rejects a wrong body at once, without a search.
pub returns-in-Bar : goal.returns-in-Bar
returns-in-Bar c = sym (ap (is_barrier_of c.args.comm) c.in-Bar.is) ∙ ap (ended_at_barrier c.args.comm) (sym c.in-Waits.is ∙ c.ue.ensures)
