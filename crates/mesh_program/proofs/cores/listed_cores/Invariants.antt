use Rattle.std.specs.Prelude.{option_map}
use Rattle.mesh_program.proofs.CoreLaws.{SoFar}
use Rattle.mesh_program.proofs.cores.listed_cores.Given as goal

abbrev pub invariant-loop-number : goal.invariant-loop-number
invariant-loop-number l = SoFar l.word l.number l.at (option_map (λ rest. rest.now) l.rest)
