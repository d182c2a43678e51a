use Rattle.std.proofs.Common.{sym}
use Rattle.mesh_program.proofs.CoreLaws.{cut_none, cut_slices}
use Rattle.mesh_program.proofs.cores.cut_word.Goals as goal

pub returns-in-Some : goal.returns-in-Some
returns-in-Some c = cut_slices c.args.word.now c.in-Some.i c.in-Some.ensures.found

pub returns-in-None : goal.returns-in-None
returns-in-None c = cut_none c.args.word.now (sym c.in-None.ensures.found)
