use Rattle.std.proofs.Common.{◌∙◌, ℕ, List, [], ap, length, refl}
use Rattle.script_machine.specs.declared.held.Held.{Held}
use Rattle.script_machine.specs.Holds.{local_with, rooms_with}
use Rattle.script_machine.specs.Lengths.{lengths_of}
use Rattle.script_machine.specs.Rooms.{nothing_held, rooms_of}
use Rattle.script_machine.specs.declared.prims.Standing.TheVariants as standing
use Rattle.script_machine.proofs.ProgramLengths.NextLengths.{lengths_unset}
use Rattle.script_machine.proofs.ProgramLengths.RoomLaws.{held_by}
use Rattle.script_machine.proofs.machines.Machine.at_start.Goals as goal

pub invariant_of-result : goal.invariant_of-result
invariant_of-result c =
    let needs = c.args.reckoned.needs in
    let walk = c.args.reckoned.walk in
    let count = length needs.registers.items in
    let none = ap (λ (h : Held). lengths_of (local_with h walk standing.Running)) c.in_ok-held.ensures
    ∙ ap (λ (l : List ℕ). record (nothing_held count) { registers = l }) (lengths_unset count [] refl) in
    held_by (rooms_of needs) (rooms_with c.in_ok-held.held) (nothing_held count) (lengths_of (local_with c.in_ok-held.held walk standing.Running)) walk.left walk.left
    (ap rooms_with c.in_ok-held.ensures) none refl c.requires

pub returns : goal.returns
returns c =
    let walk = c.args.reckoned.walk in
    λ i. record { script = walk.script; setup = walk.setup; rank = walk.rank; local = local_with (c.in_ok-held.ensures i) walk standing.Running }
