use Rattle.std.proofs.Common.{◌≡◌}
use Rattle.steps_program.proofs.bare.store_many.Given as goal

abbrev pub invariant-steps : goal.invariant-steps
invariant-steps l = l.seat.table_id ≡ l.fn.words.table_id
