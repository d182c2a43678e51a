use Rattle.std.proofs.Common.{◌∙◌, sym, arith}
use Rattle.rank_monitor.proofs.NotedLaws.{says_by, says_none}
use Rattle.rank_monitor.proofs.lines.NotedLine.head.Goals as goal

pub returns-in_default : goal.returns-in_default
returns-in_default c = record { says = λ notes is. says_none notes 0 (omega arith) (sym (is 0 (omega arith)) ∙ c.in_default.is) }

pub returns-in_default-second : goal.returns-in_default-second
returns-in_default-second c = record { says = λ notes is. says_none notes 1 (omega arith) (sym (is 1 (omega arith)) ∙ c.in_default-second.is) }

pub returns-in_default-third : goal.returns-in_default-third
returns-in_default-third c = record { says = λ notes is. says_none notes 2 (omega arith) (sym (is 2 (omega arith)) ∙ c.in_default-third.is) }

pub returns : goal.returns
returns c = record {
  says = λ notes is. says_by notes c.in-Some.kind c.in-Some-second.comm c.in-Some-third.len c.head_said.result (sym (is 0 (omega arith)) ∙ c.in-Some.is) (sym (is 1 (omega arith)) ∙ c.in-Some-second.is)
      (sym (is 2 (omega arith)) ∙ c.in-Some-third.is) c.head_said.ensures.says;
}
