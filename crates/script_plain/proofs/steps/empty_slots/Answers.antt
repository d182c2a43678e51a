use Rattle.std.proofs.Common.{◌∙◌, ◌++◌, ◌∷◌, List, [], Option, None, ap}
use Rattle.std.proofs.lemmas.List.{replicate-append-replicate}
use Rattle.script_machine.specs.declared.posts.Posted.{Posted}
use Rattle.script_plain.proofs.steps.empty_slots.Goals as goal

pub loop-preserved : goal.loop-preserved
loop-preserved c =
    c.in_ok-push.ensures.items ∙ ap (λ (l : List (Option Posted)). l ++ None ∷ []) c.loop.invariant ∙ replicate-append-replicate c.loop.counter 1 None
