use Rattle.std.proofs.Common.{◌∙◌, ℕ, List, Option, None, ap, refl, replicate, sym}
use Rattle.chip_memory.specs.Chips.{all_events, new_chip}
use Rattle.lab_run.specs.Accesses.{accesses_of}
use Rattle.lab_run.specs.Stands.{stand_of}
use Rattle.lab_run.proofs.StartLaws.{new_bench, new_stand}
use Rattle.lab_run.proofs.bench.Bench.new.Goals as goal

pub returns : goal.returns
returns c =
    let chip = c.in_ok-chip.chip in
    let cores = c.in_ok-cores.cores.items in
    let none : Option ℕ = None in
    let holders : List (Option ℕ) = replicate 48 none in
    let is = c.in_ok-chip.ensures.gives ∙ ap (new_chip c.lab_setup.result) c.of.ensures.gives in
    record {
      stand = (λ i. stand_of chip cores holders (c.new-2.ensures.items i)) ∙ new_stand c.lab_setup.result chip cores holders is c.in_ok-cores.ensures.nothing refl;
      stands = record {
        bench = new_bench c.lab_setup.result chip cores holders c.lab_setup.ensures is c.in_ok-cores.ensures.nothing refl;
        told = ap all_events is ∙ sym (ap accesses_of c.new-2.ensures.items);
      };
    }
