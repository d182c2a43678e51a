use Rattle.std.proofs.Common.{Some, sym, ◌∙◌, ap, arith}
use Rattle.std.proofs.lemmas.List.{length-set}
use Rattle.rank_monitor.specs.Steps.{look_of}
use Rattle.rank_monitor.proofs.PartLaws.{seen_first, seen_last, seen_set, seen_unset}
use Rattle.rank_monitor.proofs.receives.see.Goals as goal

pub loop-at-init : goal.loop-at-init
loop-at-init c = record { places = omega arith; seen = λ notes keeps. seen_first c.args.said.now (look_of c.args.look.now) notes keeps }

pub loop-at-preserved-then-not-sees : goal.loop-at-preserved-then-not-sees
loop-at-preserved-then-not-sees c = record {
  places = c.loop-at.invariant.places;
  seen = λ notes keeps. seen_unset c.loop-at.said (look_of c.args.look.now) notes c.loop-at.at (ap (look_of c.args.look.now) (sym c.of.ensures.gives) ∙ sym c.sees.ensures.tells ∙ c.if-not-sees.true) (c.loop-at.invariant.seen notes keeps);
}

pub loop-at-preserved : goal.loop-at-preserved
loop-at-preserved c = record {
  places = length-set c.loop-at.said c.loop-at.at (Some c.new.result) ∙ c.loop-at.invariant.places;
  seen = λ notes keeps. seen_set c.loop-at.said (look_of c.args.look.now) notes c.loop-at.at c.new.result (omega (arith, c.loop-at.invariant.places, c.loop-at-test.true)) (ap (look_of c.args.look.now) (sym c.of.ensures.gives) ∙ sym c.sees.ensures.tells ∙ c.if-not-sees.false) c.new.ensures.none
      (c.loop-at.invariant.seen notes keeps);
}

pub returns : goal.returns
returns c = record { sees = λ notes keeps. seen_last c.loop-at.said (look_of c.args.look.now) notes c.loop-at.at (omega arith) (c.loop-at.invariant.seen notes keeps) }
