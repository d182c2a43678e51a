use Rattle.std.proofs.Common.{◌≡◌, ℕ, ◌<◌, length, refl, sym, ◌∙◌, subst, arith}
use Rattle.std.proofs.lemmas.Grind.{elements}
use Rattle.scc_mesh.specs.Scenes.{about_in, table_in}
use Rattle.chip_run.proofs.ThreadLaws.{none_served, all_served, rank_below, away_yet}
use Rattle.chip_run.proofs.threads.take_home.Goals as goal

pub loop-at-init : goal.loop-at-init
loop-at-init g c = record { home = c.requires.none; same = (refl, refl); served = none_served _ c.args.crew.now }

pub bring-requires-clause-home : goal.bring-requires-clause-home
bring-requires-clause-home g c = c.loop-at.invariant.home

pub bring-requires-clause-below : goal.bring-requires-clause-below
bring-requires-clause-below g c =
    rank_below (about_in c.args.chip.now) (about_in c.loop-at.chip) c.loop-at.at _ c.loop-at-test.true c.requires.each c.loop-at.invariant.same.0

pub bring-requires-clause-away : goal.bring-requires-clause-away
bring-requires-clause-away g c =
    away_yet g.W.Worker.behaviour.tied (about_in c.args.chip.now) (about_in c.loop-at.chip) c.loop-at.at _ _ c.loop-at.invariant.same.0
    (c.loop-at.invariant.served.left c.loop-at.at _ (omega arith)) (table_in c.args.chip.now) (table_in c.loop-at.chip) c.loop-at.invariant.same.1
    (c.requires.away c.loop-at.at _ c.loop-at-test.true)

pub loop-at-preserved : goal.loop-at-preserved
loop-at-preserved g c = record {
  home = c.bring.ensures.home;
  same = (c.bring.ensures.same.0 ∙ c.loop-at.invariant.same.0, c.bring.ensures.same.1 ∙ c.loop-at.invariant.same.1);
  served = grind (arith, elements);
}

pub returns-clause-whole : goal.returns-clause-whole
returns-clause-whole g c =
    let all : length c.args.crew.now ≡ c.loop-at.at = omega arith in
    let each = sym c.requires.each ∙ all in
    record {
      opened = c.loop-at.invariant.home.opened;
      home = λ r low.
          c.loop-at.invariant.home.home r (subst (λ (n : ℕ). r < n) each
          (rank_below (about_in c.loop-at.chip) (about_in c.args.chip.now) r _ low refl (sym c.loop-at.invariant.same.0)));
    }

pub returns-clause-same : goal.returns-clause-same
returns-clause-same g c = c.loop-at.invariant.same

pub returns-clause-served : goal.returns-clause-served
returns-clause-served g c = all_served _ c.loop-at.at _ c.args.crew.now c.loop-at.crew c.loop-at.auto.at-end c.loop-at-test.false c.loop-at.invariant.served
