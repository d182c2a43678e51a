use Rattle.std.proofs.Common.{arith, sym, subst, ◌≡◌}
use Rattle.std.proofs.lemmas.List.{get_or_past}
use Rattle.scc_base.specs.Communicators.{rule_of}
use Rattle.scc_base.specs.Setups.{SetupView}
use Rattle.scc_base.specs.declared.communicators.CommRule.TheVariants.{Absent}
use Rattle.script_rules.proofs.run.Run.rule.Goals as goal

pub returns-else-comm-lt16-clause-gives : goal.returns-else-comm-lt16-clause-gives
returns-else-comm-lt16-clause-gives c =
    subst (λ (s : SetupView). Absent ≡ rule_of s.comms c.args.comm) c.self.view_is (sym (get_or_past c.self.inside.comms c.args.comm Absent (omega arith)))
