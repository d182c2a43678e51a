use Rattle.std.proofs.Common.{arith}
use Rattle.rcce_audit.proofs.progress.advance.Goals as goal

pub overflow_add-progress : goal.overflow_add-progress
overflow_add-progress c = omega (arith, c.requires.left, c.requires.lists.few c.args.rank)
