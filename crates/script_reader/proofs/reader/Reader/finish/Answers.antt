use Rattle.std.proofs.Common.{◌≡◌, ◌<◌, All, List, ◌∙◌, ap, arith, drop, length, subst, sym}
use Rattle.scc_base.specs.Communicators.{AreRules, rule_of}
use Rattle.scc_base.specs.declared.communicators.CommRule.{CommRule}
use Rattle.script_rules.specs.declared.script.Item.{Item}
use Rattle.script_rules.specs.Ends.{with_ends}
use Rattle.script_rules.specs.Checks.{last_comm}
use Rattle.script_reader.specs.Progress.{ReadingSoFar}
use Rattle.script_rules.specs.Script.{Script, rules_of}
use Rattle.scc_base.specs.declared.communicators.CommRule.TheVariants as rule
use Rattle.script_rules.specs.Settled.{IsAccepted, IsSettled}
use Rattle.script_rules.proofs.SettledLemmas.{rules-low, settled-with_ends, world-present}
use Rattle.script_rules.proofs.BareLemmas.{lines-with_ends, passed-with_ends}
use Rattle.script_rules.proofs.EndLemmas.{named-with_ends, rules-with_ends, sized-with_ends}
use Rattle.script_rules.proofs.TallyLemmas.{written-back}
use Rattle.script_reader.proofs.reader.Reader.finish.Goals as goal

-- what was written back are the items with their ends
pub new-requires : goal.new-requires
new-requires c =
    let had = c.self.inside.items.items in
    let told = c.tell_ends.new.items in
    let long : length told ≡ c.self.inside.items.len = omega (arith, c.tell_ends.auto.items, c.deref_mut.ensures.len) in
    let back = written-back c.self.inside.items.len told (drop (length told) had) long in
    let is = c.tell_ends.ensures.gives ∙ ap (λ (items : List Item). with_ends (length items) items) c.deref_mut.ensures.value in
    subst (λ (items : List Item). IsAccepted c.self.inside.nue items c.self.inside.names.items) (sym (back ∙ is)) (record {
      whole = record {
        some = c.self.invariant.some;
        most = c.self.invariant.most;
        sized = sized-with_ends (length had) had c.self.invariant.sized;
        settled = subst (λ (r : List CommRule). All (IsSettled c.self.inside.nue r) (with_ends (length had) had)) (sym (rules-with_ends (length had) had)) (settled-with_ends c.self.inside.nue (length had) (rules_of had) had (world-present had) c.self.invariant.settled);
        passed = passed-with_ends c.self.inside.nue (length had) had c.self.invariant.passed;
        rules = subst (λ (r : List CommRule). AreRules r) (sym (rules-with_ends (length had) had)) c.self.invariant.rules;
        in_line = lines-with_ends c.self.inside.nue (length had) had c.self.invariant.in_line;
      };
      named = named-with_ends (length c.self.inside.names.items) (length had) had c.self.invariant.named;
    })

pub returns-clause-low : goal.returns-clause-low
returns-clause-low c = λ comm above.
    let had = c.self.inside.items.items in
    let told = c.tell_ends.new.items in
    let long : length told ≡ c.self.inside.items.len = omega (arith, c.tell_ends.auto.items, c.deref_mut.ensures.len) in
    let back = written-back c.self.inside.items.len told (drop (length told) had) long in
    let is = c.tell_ends.ensures.gives ∙ ap (λ (items : List Item). with_ends (length items) items) c.deref_mut.ensures.value in
    let rules = ap (λ (s : Script). rules_of s.items) c.new.ensures ∙ ap rules_of (back ∙ is) ∙ rules-with_ends (length had) had in
    let higher = subst (λ (p : ReadingSoFar). last_comm p.version < comm → last_comm c.self.inside.version < comm) c.self.view_is (λ h. h) above in
    subst (λ (r : List CommRule). rule_of r comm ≡ rule.Absent) (sym rules) (rules-low had comm (omega (arith, higher)) (c.self.invariant.low comm higher))
