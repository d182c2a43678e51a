-- The rules of communicators while a trace is read.
use Rattle.std.proofs.Common.{◌≡◌, ℕ, zero, suc, ◌<◌, List, length, set, Some, ◌∙◌, arith, sym, subst}
use Rattle.std.proofs.Math.Logic.{∥∥₁_map}
use Rattle.std.proofs.lemmas.List.{get_or-set_other}
use Rattle.scc_base.specs.Communicators.{AreRules, rule_of}
use Rattle.scc_base.specs.declared.communicators.CommRule.{CommRule}
use Rattle.scc_base.specs.declared.communicators.CommRule.TheVariants.{Absent}
use Rattle.scc_base.specs.Worlds.{world_alone}
use Rattle.rcce_audit.specs.Grammar.{comm_said}
use Rattle.rcce_audit.specs.declared.lines.CommSplit.{CommSplit}
use Rattle.rcce_audit.proofs.LineLemmas.{comm_line}
use Rattle.rcce_audit.proofs.ReadingLemmas.{no_rules, rules_more, split_rule_is, split_stands, world_rules}

module _ (last : ℕ) (comms : List CommRule) (words : List (List ℕ)) (split : CommSplit) (sixteen : length comms ≡ 16) (rules : ∥ AreRules comms ∥₁)
    (later : (c : ℕ) → last < c → rule_of comms c ≡ Absent) (said : comm_said last comms words ≡ Some split) where
  pub more : AreRules comms → AreRules (set comms split.comm split.rule)
  more old =
      let is = comm_line last comms words split said in
      rules_more comms split.comm split.rule sixteen is.below (split_stands comms split.rule is.rule) (later split.comm is.above) old (split_rule_is last split.comm comms split.rule is.above later is.rule)

  pub rules_grown : ∥ AreRules (set comms split.comm split.rule) ∥₁
  rules_grown = ∥∥₁_map rules more

  pub later_grown : (c : ℕ) → split.comm < c → rule_of (set comms split.comm split.rule) c ≡ Absent
  later_grown c above =
      let is = comm_line last comms words split said in
      get_or-set_other comms split.comm c split.rule Absent (λ at. omega (arith, at, above)) ∙ later c (omega (arith, is.above, above))

pub world_rules_are : (comms : List CommRule) → comms ≡ world_alone → AreRules comms
world_rules_are comms is = subst AreRules (sym is) world_rules

pub world_later : (comms : List CommRule) → comms ≡ world_alone → (c : ℕ) → 0 < c → rule_of comms c ≡ Absent
world_later comms is zero above = absurd (omega (arith, above))
world_later comms is (suc c) above = subst (λ (x : List CommRule). rule_of x (suc c) ≡ Absent) (sym is) (no_rules c)
