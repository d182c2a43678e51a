use Rattle.script_machine.proofs.walk.Walk.of.Goals as goal

pub returns : goal.returns
returns c =
    let passed = c.pass_ends-next.ensures in
    λ i. record { script = passed.script i; setup = passed.setup i; rank = passed.rank i; left = passed.same i }
