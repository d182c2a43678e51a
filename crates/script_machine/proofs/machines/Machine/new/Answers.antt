use Rattle.std.proofs.Common.{◌≡◌, ◌∙◌, [], ap, refl, replicate, subst, sym}
use Rattle.std.specs.Prelude.{IfOk}
use Rattle.script_machine.specs.Machine.{MachineView}
use Rattle.script_machine.specs.Program.{program_of}
use Rattle.script_machine.specs.Rooms.{nothing_held, rooms_of}
use Rattle.script_machine.specs.Walk.{WalkView}
use Rattle.script_machine.specs.declared.prims.Standing.TheVariants as standing
use Rattle.script_machine.proofs.ProgramLengths.RoomLaws.{held_by, register_count}
use Rattle.script_machine.proofs.machines.Machine.new.Goals as goal

pub at_start-requires : goal.at_start-requires
at_start-requires c =
    let needs = c.in_ok-reckoned.reckoned.needs in
    let walk = c.in_ok-reckoned.reckoned.walk in
    let trial = c.in_ok-trial.trial in
    let many = register_count (rooms_of needs) c.registers.result trial.left c.in_ok-reckoned.ensures.holds in
    let again = c.in_ok-reckoned.ensures.again ∙ ap (λ (w : WalkView). record w { left = program_of w.script w.rank }) c.in_ok-trial.ensures in
    let left = ap (λ (w : WalkView). w.left) again ∙ sym (ap (λ (w : WalkView). w.left) c.in_ok-trial.ensures) in
    held_by (rooms_of needs) (rooms_of needs) (nothing_held c.registers.result) _ trial.left walk.left refl (ap nothing_held many) left c.in_ok-reckoned.ensures.holds

pub returns : goal.returns
returns c =
    let needs = c.in_ok-reckoned.reckoned.needs in
    let many = register_count (rooms_of needs) c.registers.result c.in_ok-trial.trial.left c.in_ok-reckoned.ensures.holds ∙ c.registers.ensures in
    let again = c.in_ok-reckoned.ensures.again ∙ ap (λ (w : WalkView). record w { left = program_of w.script w.rank }) c.in_ok-trial.ensures in
    subst (λ (v : MachineView). IfOk c.at_start.result (λ m. m ≡ v))
    (λ i. record {
      script = (again i).script;
      setup = (again i).setup;
      rank = (again i).rank;
      local = record {
        registers = replicate (many i) [];
        accumulator = [];
        received = [];
        left = (again i).left;
        printed = [];
        standing = standing.Running;
      };
    })
    c.at_start.ensures
