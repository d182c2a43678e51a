use Rattle.std.proofs.Common.{◌<◌, ◌∙◌, arith, length, rules, sym}
use Rattle.trace_text.proofs.HeadLemmas.{apart_more}
use Rattle.trace_text.proofs.hosts.Hosts.and.Goals as goal

pub invariant_of-result : goal.invariant_of-result
invariant_of-result c =
    let among : c.args.self.count < length c.args.self.cores = search rules in
    record {
      within = omega (arith, c.if-self-ge48.false);
      apart = apart_more c.args.self.count c.args.self.cores c.of-core.result among c.args.self.apart (sym c.is_free.ensures ∙ c.if-not-is_free.false);
    }
