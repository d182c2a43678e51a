use Rattle.std.proofs.Common.{◌∙◌, ◌≤◌, ◌++◌, ◌∷◌, ℕ, [], Ok, Result, ap, arith, length, length-append, subst, sym}
use Rattle.std.proofs.lemmas.Bool.{ltb-false}
use Rattle.script_rules.specs.declared.effect.Effect.{Effect}
use Rattle.script_rules.specs.declared.fault.FaultKind.{FaultKind}
use Rattle.script_rules.specs.declared.script.Item.{Item}
use Rattle.script_rules.specs.declared.script.Stmt.{Stmt}
use Rattle.script_rules.specs.declared.script.Who.{Who}
use Rattle.script_rules.specs.Effects.{effect_of}
use Rattle.script_rules.specs.Limits.{most_names}
use Rattle.script_rules.specs.Settled.{IsNamed}
use Rattle.script_rules.specs.Tally.{IsAimed, IsMade}
use Rattle.script_reader.specs.Faults.{◌>>=◌}
use Rattle.script_reader.specs.Progress.{ReadingSoFar, section_or_fault}
use Rattle.script_reader.proofs.FaultLemmas.{no-fault}
use Rattle.script_reader.proofs.StopLemmas.{faulted, none-kept, starved}
use Rattle.script_reader.proofs.reader.Reader.place.Goals as goal

-- before a statement without a fault there are no more names than a file may have
pub returns-clause-kept : goal.returns-clause-kept
returns-clause-kept c =
    let new = c.in_ok-add_item.ensures in
    let sound = no-fault c.args.self.now c.effect_of-effect.result c.in_ok-who.ensures.passed in
    let few : length c.args.self.now.names ≤ most_names = ltb-false most_names (length c.args.self.now.names) sound.few in
    record {
      same = ap (λ (p : ReadingSoFar). p.version) new;
      named = omega (arith, few, ap (λ (p : ReadingSoFar). length p.names) new);
      counted = omega (arith, c.requires.counted, ap (λ (p : ReadingSoFar). length p.items) new, length-append {A = Item});
    }

-- what has been read if the statement is added to this section
abbrev afterwards : ℕ → ReadingSoFar → Stmt → Who → Result ReadingSoFar FaultKind
afterwards line p stmt who = Ok (record p { items = p.items ++ (record { line = line; who = who; stmt = stmt }) ∷ [] })

pub returns-in_err-who-clause-gives : goal.returns-in_err-who-clause-gives
returns-in_err-who-clause-gives c =
    let p = c.args.self.now in
    faulted _ c.from_residual.result _ (section_or_fault p (effect_of c.args.stmt)) (afterwards c.args.line p c.args.stmt) c.from_residual.ensures.1
    (c.in_err-who.ensures.same ∙ ap (section_or_fault p) c.effect_of-effect.ensures)

pub returns-in_err-who-clause-kept : goal.returns-in_err-who-clause-kept
returns-in_err-who-clause-kept c = none-kept c.from_residual.result _ c.from_residual.ensures.0

pub add_item-requires-clause-meant : goal.add_item-requires-clause-meant
add_item-requires-clause-meant c = c.effect_of-effect.ensures

pub add_item-requires-clause-made : goal.add_item-requires-clause-made
add_item-requires-clause-made c = subst (λ (e : Effect). IsMade e) (sym c.effect_of-effect.ensures) c.requires.made

pub add_item-requires-clause-named : goal.add_item-requires-clause-named
add_item-requires-clause-named c = subst (λ (e : Effect). IsNamed (length c.args.self.now.names) e) (sym c.effect_of-effect.ensures) c.requires.named

pub add_item-requires-clause-aimed : goal.add_item-requires-clause-aimed
add_item-requires-clause-aimed c = subst (λ (e : Effect). IsAimed c.args.self.now.nue e) (sym c.effect_of-effect.ensures) c.requires.aimed

pub add_item-requires-clause-passed : goal.add_item-requires-clause-passed
add_item-requires-clause-passed c = c.in_ok-who.ensures.passed

pub add_item-requires-clause-opened : goal.add_item-requires-clause-opened
add_item-requires-clause-opened c = c.in_ok-who.ensures.opened

pub returns-in_err-add_item-clause-gives : goal.returns-in_err-add_item-clause-gives
returns-in_err-add_item-clause-gives c = starved _ _ _ c.from_residual-in_err-add_item.ensures.1

pub returns-in_err-add_item-clause-kept : goal.returns-in_err-add_item-clause-kept
returns-in_err-add_item-clause-kept c = none-kept c.from_residual-in_err-add_item.result _ c.from_residual-in_err-add_item.ensures.0

pub returns-clause-gives : goal.returns-clause-gives
returns-clause-gives c =
    let p = c.args.self.now in
    ap (λ (r : Result Who FaultKind). r >>= afterwards c.args.line p c.args.stmt) (ap (section_or_fault p) (sym c.effect_of-effect.ensures) ∙ sym c.in_ok-who.ensures.same)
    ∙ ap Ok (sym c.in_ok-add_item.ensures)
