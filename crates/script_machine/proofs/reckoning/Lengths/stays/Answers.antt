use Rattle.std.proofs.Common.{◌∙◌, sym}
use Rattle.std.proofs.lemmas.Bool.{eqb-true}
use Rattle.script_machine.proofs.ProgramLengths.BatchLaws.{kept_register}
use Rattle.script_machine.proofs.reckoning.Lengths.stays.Goals as goal

pub returns : goal.returns
returns c = λ same.
    kept_register c.args.self.now c.args.reg c.args.len
    (sym c.len.ensures ∙ sym c.get.ensures.same ∙ eqb-true c.get.result c.get-2.result same ∙ c.get-2.ensures.same)
