use Rattle.std.proofs.Common.{◌≡◌, length, map, rules, sym}
use Rattle.trace_text.proofs.RuleLemmas.{later_grown, rules_grown}
use Rattle.trace_text.proofs.reader.TraceReader.read_comm.Goals as goal

pub invariant_of-self : goal.invariant_of-self
invariant_of-self c =
    let r = c.args.self.now in
    let words = map (λ word. word.now) c.args.words.now in
    let sixteen : length r.comms ≡ 16 = search rules in
    record {
      some_ranks = r.some_ranks;
      ranks_within = r.ranks_within;
      apart = r.apart;
      comm_below = c.in-Some.ensures.below;
      rules = rules_grown r.comm r.comms words c.in-Some.split sixteen r.rules r.later (sym c.in-Some.ensures.gives);
      later = later_grown r.comm r.comms words c.in-Some.split sixteen r.rules r.later (sym c.in-Some.ensures.gives);
      begun_where = r.begun_where;
    }
