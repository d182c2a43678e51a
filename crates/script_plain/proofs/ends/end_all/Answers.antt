use Rattle.std.proofs.Common.{arith}
use Rattle.plain_meaning.proofs.Messages.RestLaws.{ends_more, rest_more}
use Rattle.script_plain.proofs.ends.end_all.Goals as goal

pub loop-i-preserved : goal.loop-i-preserved
loop-i-preserved c =
    record {
      made = ends_more c.args.ues.now c.loop-i.ues c.args.slots.now c.loop-i.ranks.items c.push.new.self.items c.loop-i.i c.index-ues-i.result c.index-slots-i.result c.of.result
          c.loop-i.invariant.made c.loop-i.invariant.rest (omega (arith, c.loop-i-test.true, c.loop-i.auto.ues)) (omega (arith, c.loop-i-test.true, c.loop-i.auto.ues, c.requires.slots))
          c.index-ues-i.is c.index-slots-i.is c.of.ensures c.in_ok-push.ensures.items;
      rest = rest_more c.args.ues.now c.loop-i.ues c.loop-i.i c.of.new.ue c.loop-i.invariant.rest;
    }
