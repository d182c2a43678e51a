use Rattle.std.proofs.Common.{List, length, not, ◌==◌, sym, ap, arith}
use Rattle.trace_text.specs.declared.traces.TraceEvent.{TraceEvent}
use Rattle.trace_text.proofs.RuleLemmas.{world_later, world_rules_are}
use Rattle.trace_text.proofs.reader.TraceReader.new.Goals as goal

pub invariant_of-result : goal.invariant_of-result
invariant_of-result c = record {
  some_ranks = c.args.head.some_ranks;
  ranks_within = c.args.head.ranks_within;
  apart = c.args.head.apart;
  comm_below = omega arith;
  rules = ∣ world_rules_are _ c.world_alone.ensures.gives ∣₁;
  later = world_later _ c.world_alone.ensures.gives;
  begun_where = sym (ap (λ (l : List TraceEvent). not (length l == 0)) c.new.ensures);
}
