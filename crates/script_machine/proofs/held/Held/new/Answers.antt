use Rattle.std.proofs.Common.{◌∙◌, ℕ, List, [], ap, length, replicate}
use Rattle.script_machine.proofs.held.Held.new.Goals as goal

pub returns : goal.returns
returns c =
    let given = c.in_ok-registers.ensures ∙ ap (λ (l : List ℕ). record { registers = replicate (length l) []; rooms = l }) c.as_slice.ensures.value in
    λ i. record {
      registers = given i;
      folded = (c.in_ok-folded.ensures i).folded;
      taken = (c.in_ok-folded.ensures i).taken;
      spare = (c.in_ok-folded.ensures i).spare;
      prints = c.in_ok-prints.ensures i;
    }
