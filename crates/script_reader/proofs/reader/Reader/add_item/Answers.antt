use Rattle.std.proofs.Common.{◌≡◌, ℕ, ◌<◌, List, ◌++◌, ◌∷◌, [], ◌∙◌, ap, arith, drop, take, get_or, true, false, length, Option, refl, reverse, Some, subst, sym}
use Rattle.std.proofs.lemmas.List.{get_or_push}
use Rattle.scc_base.specs.Communicators.{AreRules}
use Rattle.scc_base.specs.Setups.{SetupView}
use Rattle.scc_base.specs.declared.communicators.CommRule.{CommRule}
use Rattle.script_rules.specs.declared.effect.Effect.{Effect}
use Rattle.script_rules.specs.declared.fault.FaultKind.{FaultKind}
use Rattle.script_rules.specs.declared.fault.FaultKind.TheVariants as kind
use Rattle.script_rules.specs.declared.repeats.Open.{Open}
use Rattle.script_rules.specs.declared.script.Item.{Item}
use Rattle.script_rules.specs.declared.script.Who.{Who}
use Rattle.script_rules.specs.declared.tally.Tally.{Tally}
use Rattle.script_rules.specs.Checks.{is_too_deep, repeats_after, refuses, run_of, some_rank, turns_in, turns_too_often}
use Rattle.script_rules.specs.Effects.{effect_of}
use Rattle.script_reader.specs.Progress.{ReadingSoFar}
use Rattle.script_rules.specs.Script.{rules_of}
use Rattle.script_rules.specs.Settled.{IsNamed}
use Rattle.script_rules.specs.Tally.{IsAimed, IsMade, is_new_split, noted_at}
use Rattle.script_reader.specs.Kept.{IsKept}
use Rattle.script_reader.proofs.FaultLemmas.{IsSound, no-fault, sound-at, passed-all}
use Rattle.script_reader.proofs.ReaderLemmas.{kept-more, run-after, run-stays}
use Rattle.script_reader.proofs.StopLemmas.{none-kept}
use Rattle.script_rules.proofs.RuleLemmas.{rules-kept, rules-made}
use Rattle.script_rules.proofs.SettledLemmas.{settled-new}
use Rattle.script_rules.proofs.TallyLemmas.{written-back}
use Rattle.script_reader.proofs.reader.Reader.add_item.Goals.{After-note_repeat}
use Rattle.script_reader.proofs.reader.Reader.add_item.Goals as goal

-- a statement without a fault is not nested too deep, and does not run too often
pub note_repeat-requires-clause-flat : goal.note_repeat-requires-clause-flat
note_repeat-requires-clause-flat c =
    let sound = subst (λ (p : ReadingSoFar). IsSound p c.args.effect.now) (sym c.self.view_is) (no-fault _ c.args.effect.now c.requires.passed) in
    subst (λ (repeats : List Open). is_too_deep repeats c.args.effect.now.nesting ≡ false) (sym c.self.invariant.repeats_are) sound.flat

pub note_repeat-requires-clause-turning : goal.note_repeat-requires-clause-turning
note_repeat-requires-clause-turning c =
    let sound = subst (λ (p : ReadingSoFar). IsSound p c.args.effect.now) (sym c.self.view_is) (no-fault _ c.args.effect.now c.requires.passed) in
    subst (λ (repeats : List Open). turns_too_often (turns_in repeats) c.args.effect.now.nesting ≡ false) (sym c.self.invariant.repeats_are) sound.turning

-- what the lines before it have given
abbrev before : After-note_repeat → ReadingSoFar
before c =
    let inside = c.self.inside in
    record { version = inside.version; nue = inside.nue; opening = inside.opening; items = inside.items.items; names = inside.names.items; section = inside.section }

-- the statement has no fault after them
sound : (c : After-note_repeat) → IsSound (before c) (effect_of c.args.item.stmt)
sound c = subst (λ (p : ReadingSoFar). IsSound p (effect_of c.args.item.stmt)) (sym c.self.view_is) (sound-at _ c.args.effect.now c.args.item.stmt c.requires.meant c.requires.passed)

-- whether it splits a communicator without a rule, by what is kept
splits : (c : After-note_repeat) → c.is_new_split-is_split.result ≡ is_new_split (run_of c.self.inside.nue (reverse c.self.inside.items.items)) (effect_of c.args.item.stmt).group
splits c =
    c.is_new_split-is_split.ensures
    ∙ ap (λ (e : Effect). is_new_split c.self.inside.run e.group) c.requires.meant
    ∙ ap (λ (run : SetupView). is_new_split run (effect_of c.args.item.stmt).group) c.self.invariant.run_is

-- if it does, a setup may have the rules after it
valid : (c : After-note_repeat) → c.is_new_split-is_split.result ≡ true → AreRules (rules_of (c.self.inside.items.items ++ c.args.item ∷ []))
valid c new =
    let inside = c.self.inside in
    let e = effect_of c.args.item.stmt in
    let s = sound c in
    let made = subst (λ (e : Effect). IsMade e) c.requires.meant c.requires.made in
    rules-made e.group inside.items.items c.args.item inside.version inside.nue refl made.split s.unknown s.parented (sym (splits c) ∙ new) c.self.invariant.rules

-- the invariant after it, over the run by the rules after it
kept : (c : After-note_repeat) (run : SetupView) → run ≡ run_of c.self.inside.nue (reverse (c.self.inside.items.items ++ c.args.item ∷ [])) → AreRules (rules_of (c.self.inside.items.items ++ c.args.item ∷ []))
    → IsKept c.self.inside.version c.self.inside.nue c.push.new.self.items c.self.inside.names.items run c.note_repeat.new.repeats.items
    (take c.self.inside.tallies.len (c.note_item.new.tallies ++ drop (length c.note_item.new.tallies) c.self.inside.tallies.items))
kept c run straight valid =
    let inside = c.self.inside in
    let had = inside.items.items in
    let item = c.args.item in
    let e = effect_of item.stmt in
    let meant = c.requires.meant in
    let noted = c.note_item.new.tallies in
    let pushed = c.in_ok-push.ensures.items in
    let s = sound c in
    let made = subst (λ (e : Effect). IsMade e) meant c.requires.made in
    let place : length had ≡ c.len-place.result = omega (arith, c.len-place.ensures, inside.items.ok.0) in
    let last : c.index-last.result.now ≡ item = c.index-last.ensures ∙ ap (λ items. get_or items c.len-place.result c.index-last.result.now) pushed ∙ get_or_push had item c.index-last.result.now c.len-place.result place in
    let turns = c.turns_in-turns.ensures ∙ ap turns_in c.as_slice.ensures.value in
    let ranks = ap (λ (run : SetupView). run.nue) c.self.invariant.run_is in
    let long : length noted ≡ inside.tallies.len = omega (arith, c.note_item.auto.tallies, c.deref_mut.ensures.len) in
    let back = written-back inside.tallies.len noted (drop (length noted) inside.tallies.items) long in
    let counts = λ (rank : ℕ) (d : Tally) (below : rank < inside.nue).
    c.note_item.ensures rank d (omega (arith, below, ranks))
    ∙ ap (λ (i : Item). noted_at inside.run c.turns_in-turns.result i.who c.args.effect.now rank (get_or c.deref_mut.result.now rank d)) last
    ∙ ap (λ (x : Effect). noted_at inside.run c.turns_in-turns.result item.who x rank (get_or c.deref_mut.result.now rank d)) meant
    ∙ ap (λ ts. noted_at inside.run c.turns_in-turns.result item.who e rank (get_or ts rank d)) c.deref_mut.ensures.value
    ∙ ap (λ (t : ℕ). noted_at inside.run t item.who e rank (get_or inside.tallies.items rank d)) turns in
    let opens = c.note_repeat.ensures ∙ ap (λ (x : Effect). repeats_after x.nesting c.len-place.result inside.repeats.items) meant ∙ ap (λ (n : ℕ). repeats_after e.nesting n inside.repeats.items) (sym place) in
    let named = subst (λ (x : Effect). IsNamed (length inside.names.items) x) meant (subst (λ (p : ReadingSoFar). IsNamed (length p.names) c.args.effect.now) (sym c.self.view_is) c.requires.named) in
    let aimed = subst (λ (x : Effect). IsAimed inside.nue x) meant (subst (λ (p : ReadingSoFar). IsAimed p.nue c.args.effect.now) (sym c.self.view_is) c.requires.aimed) in
    let section = subst (λ (p : ReadingSoFar). p.section ≡ Some item.who) (sym c.self.view_is) c.requires.opened in
    let none = λ (kind : FaultKind). subst (λ (who : Option Who). some_rank inside.nue who (refuses kind inside.nue (reverse had) e) ≡ false) section (passed-all _ e s kind) in
    let settled = settled-new inside.version inside.nue had item c.self.invariant.some aimed c.self.invariant.have s.unknown (none kind.SelfMessage) (none kind.RankRange) (none kind.NotSplit) in
    let more = kept-more inside.version inside.nue had inside.names.items item inside.run run inside.repeats.items c.note_repeat.new.repeats.items inside.tallies.items noted
    c.self.invariant s.unknown made named s.short s.flat straight opens valid (omega (arith, long, inside.tallies.ok.0, c.self.invariant.ranked)) settled none counts in
    subst (λ (ts : List Tally). IsKept inside.version inside.nue c.push.new.self.items inside.names.items run c.note_repeat.new.repeats.items ts) (sym back)
    (subst (λ (items : List Item). IsKept inside.version inside.nue items inside.names.items run c.note_repeat.new.repeats.items noted) (sym pushed) more)

pub new-self-inside-requires-clause-rules : goal.new-self-inside-requires-clause-rules
new-self-inside-requires-clause-rules c =
    let w = (goal.at.new-self-inside-requires-clause-rules c).After-note_repeat in
    subst (λ (r : List CommRule). AreRules r) (sym (c.rules_of.ensures ∙ ap rules_of (c.as_slice-then-is_split.ensures.value ∙ c.in_ok-push.ensures.items)))
    (valid w c.if-is_split.true)

pub invariant_of-self-then-is_split : goal.invariant_of-self-then-is_split
invariant_of-self-then-is_split c =
    let w = (goal.at.invariant_of-self-then-is_split c).After-note_repeat in
    let after = c.self.inside.items.items ++ c.args.item ∷ [] in
    let rules = c.rules_of.ensures ∙ ap rules_of (c.as_slice-then-is_split.ensures.value ∙ c.in_ok-push.ensures.items) in
    kept w c.new-self-inside.result (c.new-self-inside.ensures ∙ run-after c.self.inside.nue after c.rules_of.result rules) (valid w c.if-is_split.true)

pub invariant_of-self-else-is_split : goal.invariant_of-self-else-is_split
invariant_of-self-else-is_split c =
    let w = (goal.at.invariant_of-self-else-is_split c).After-note_repeat in
    let inside = c.self.inside in
    let had = inside.items.items in
    let same = rules-kept (effect_of c.args.item.stmt).group had c.args.item inside.version inside.nue refl (sound w).unknown (sym (splits w) ∙ c.if-is_split.false) in
    kept w inside.run (run-stays inside.nue had c.args.item inside.run c.self.invariant.run_is same) (subst (λ (r : List CommRule). AreRules r) (sym same) c.self.invariant.rules)

pub invariant_of-self : goal.invariant_of-self
invariant_of-self c =
    let inside = c.self.inside in
    subst (λ (items : List Item). IsKept inside.version inside.nue items inside.names.items inside.run inside.repeats.items inside.tallies.items) (sym c.in_err-push.ensures.items) c.self.invariant

pub returns-in_err-push : goal.returns-in_err-push
returns-in_err-push c = none-kept c.from_residual.result _ c.from_residual.ensures.0

-- what has been read after the statement
added : (c : After-note_repeat) → record (before c) { items = c.push.new.self.items } ≡ record c.args.self.now { items = c.args.self.now.items ++ c.args.item ∷ [] }
added c =
    ap (λ (p : ReadingSoFar). record p { items = c.push.new.self.items }) c.self.view_is
    ∙ ap (λ (items : List Item). record c.args.self.now { items = items }) (c.in_ok-push.ensures.items ∙ ap (λ (p : ReadingSoFar). p.items ++ c.args.item ∷ []) c.self.view_is)

pub returns-then-is_split : goal.returns-then-is_split
returns-then-is_split c = added (goal.at.returns-then-is_split c).After-note_repeat

pub returns-else-is_split : goal.returns-else-is_split
returns-else-is_split c = added (goal.at.returns-else-is_split c).After-note_repeat
