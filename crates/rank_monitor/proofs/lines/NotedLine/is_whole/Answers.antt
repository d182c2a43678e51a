use Rattle.std.proofs.Common.{◌∙◌, Option, sym, subst, arith}
use Rattle.scc_base.specs.Heads.{MessageHead}
use Rattle.scc_proto.proofs.Tests.{eqb_other}
use Rattle.rank_monitor.specs.Noted.{TellsHead}
use Rattle.rank_monitor.proofs.NotedLaws.{line_no_head, line_no_word, line_plain, line_posted}
use Rattle.rank_monitor.proofs.lines.NotedLine.is_whole.Goals as goal

pub returns-in_default : goal.returns-in_default
returns-in_default c = record { tells = λ notes is. sym (line_no_head notes (subst (λ (o : Option MessageHead). TellsHead notes o) c.in_default.is (c.head.ensures.says notes is))) }

pub returns-in_default-words : goal.returns-in_default-words
returns-in_default-words c = record { tells = λ notes is. sym (line_no_word notes (sym (is 3 (omega arith)) ∙ c.in_default-words.is)) }

pub returns-then-word-eq1 : goal.returns-then-word-eq1
returns-then-word-eq1 c = record {
  tells = λ notes is. c.is_some.ensures ∙ line_posted notes c.in-Some.head c.in-Some-words.word c.new.result (subst (λ (o : Option MessageHead). TellsHead notes o) c.in-Some.is (c.head.ensures.says notes is))
      (sym (is 3 (omega arith)) ∙ c.in-Some-words.is) c.if-word-eq1.true c.new.ensures.gives;
}

pub returns : goal.returns
returns c = record {
  tells = λ notes is. line_plain notes c.in-Some.head c.in-Some-words.word (subst (λ (o : Option MessageHead). TellsHead notes o) c.in-Some.is (c.head.ensures.says notes is))
      (sym (is 3 (omega arith)) ∙ c.in-Some-words.is) (eqb_other c.in-Some-words.word 1 c.if-word-eq1.false);
}
