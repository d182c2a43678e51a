use Rattle.std.proofs.Common.{arith, subst, sym}
use Rattle.plain_meaning.specs.Kept.{Fits, reckoned_at}
use Rattle.script_machine.specs.Machine.{MachineView}
use Rattle.plain_meaning.proofs.ProgramLengths.LengthLaws.{sound_started}
use Rattle.script_plain.proofs.ues.Ue.new.Goals as goal

pub invariant_of-result : goal.invariant_of-result
invariant_of-result c =
    let P : MachineView → Type 0 = λ m. Fits (reckoned_at m.script m.rank) m.local in
    subst P (sym c.in_ok-machine.ensures)
    (sound_started c.args.scripts.now c.args.rank c.acceptance_law.ensures.whole (omega (arith, c.requires.within, c.requires.ranks))).fits
