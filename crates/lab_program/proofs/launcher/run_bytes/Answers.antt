use Rattle.std.proofs.Common.{codes, List, refl, subst}
use Rattle.lab_reader.specs.declared.steps.Step.{Step}
use Rattle.lab_reader.specs.Reading.{lab_of}
use Rattle.lab_plain.specs.Meaning.{lab_done}
use Rattle.lab_run.specs.Stands.{HasDoneLab}
use Rattle.lab_program.proofs.PlanLemmas.{comes_done, comes_refused, tells_done}
use Rattle.lab_program.proofs.launcher.run_bytes.Goals as goal

pub returns-in-Ok-run_lab : goal.returns-in-Ok-run_lab
returns-in-Ok-run_lab c =
    let run = c.in-Ok-run_lab.run' in
    let steps = c.in-Ok.steps.items in
    let done : HasDoneLab (lab_done steps) run = subst (λ (l : List Step). HasDoneLab (lab_done l) run) c.as_slice.ensures.value c.in-Ok-run_lab.ensures in
    record {
      comes = λ files. comes_done (codes "rccelab") c.args.file.now (lab_of c.args.bytes.now) steps run files c.in-Ok.ensures done;
      tells = λ before after read. tells_done before after c.args.file.now c.args.bytes.now steps run _ c.in-Ok.ensures c.requires.few read done refl;
    }

pub returns-in-Err-Fault : goal.returns-in-Err-Fault
returns-in-Err-Fault c =
    let fault = c.in-Err-Fault.fault in
    record {
      comes = λ files.
          rw c.in-Err-Fault.fault-is
          (comes_refused (codes "rccelab") c.args.file.now (lab_of c.args.bytes.now) fault c.name.result.now files (rw c.in-Err-Fault.field-0-is at c.in-Err-Fault.ensures)
          (rw c.in-Err-Fault.fault-is at c.name.ensures));
      tells = λ before after read. c.requires.blank;
    }
