use Rattle.std.proofs.Common.{ℕ, ◌+◌, ◌%◌, ◌∙◌, arith, ap, sym, length}
use Rattle.std.proofs.lemmas.List.FromFn.{length-map-range_with_len}
use Rattle.script_machine.specs.Walk.{content_of}
use Rattle.script_machine.specs.declared.prims.Content.{Content}
use Rattle.script_machine.proofs.reckoning.content_len.Goals as goal

pub of-requires-in-Filling : goal.of-requires-in-Filling
of-requires-in-Filling c =
    let all = length-map-range_with_len (λ (i : ℕ). (c.in-Filling.start + i) % 251) 0 c.in-Filling.len in
    let sized = rw c.in-Filling.is at c.requires in
    omega (arith, all, sized)

pub returns-in-Filling : goal.returns-in-Filling
returns-in-Filling c =
    c.of-in-Filling.ensures ∙ sym (length-map-range_with_len (λ (i : ℕ). (c.in-Filling.start + i) % 251) 0 c.in-Filling.len)
    ∙ sym (ap (λ (content : Content). length (content_of content)) c.in-Filling.is)
