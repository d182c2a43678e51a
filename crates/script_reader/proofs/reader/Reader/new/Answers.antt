use Rattle.std.proofs.Common.{◌∙◌, ℕ, [], List, None, ap, subst, sym, true}
use Rattle.scc_base.specs.Communicators.{AreRules}
use Rattle.scc_base.specs.declared.communicators.CommRule.{CommRule}
use Rattle.script_rules.specs.declared.script.Item.{Item}
use Rattle.script_reader.specs.Progress.{ReadingSoFar}
use Rattle.script_reader.proofs.ReaderLemmas.{kept-none, rules-none, run-after}
use Rattle.script_reader.proofs.StopLemmas.{none-given}
use Rattle.script_reader.proofs.reader.Reader.new.Goals as goal

pub returns-in_err-tallies : goal.returns-in_err-tallies
returns-in_err-tallies c = none-given c.from_residual.result _ c.from_residual.ensures.0

pub new-requires-3-clause-rules : goal.new-requires-3-clause-rules
new-requires-3-clause-rules c = subst (λ (r : List CommRule). AreRules r) (sym c.rules_of.ensures) rules-none

pub invariant_of-result : goal.invariant_of-result
invariant_of-result c =
    kept-none c.args.version c.args.nue c.new.result.items c.new-2.result.items c.new-3.result c.new-4.result.items c.in_ok-tallies.tallies.items
    c.requires.some c.requires.most c.new.ensures.items (c.new-3.ensures ∙ run-after c.args.nue [] c.rules_of.result c.rules_of.ensures)
    c.new-4.ensures (sym c.in_ok-tallies.tallies.ok.0 ∙ c.in_ok-tallies.ensures.ranks) c.in_ok-tallies.ensures.empty

pub returns : goal.returns
returns c =
    let begun : List Item → List (List ℕ) → ReadingSoFar = λ items names. record { version = c.args.version; nue = c.args.nue; opening = true; items = items; names = names; section = None } in
    ap (λ (items : List Item). begun items c.new-2.result.items) c.new.ensures.items ∙ ap (begun []) c.new-2.ensures.items
