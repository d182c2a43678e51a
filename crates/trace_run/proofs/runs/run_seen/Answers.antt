use Rattle.std.proofs.Common.{◌≡◌, ℕ, ◌+◌, true, length, subst, sym, ◌∙◌, rules}
use Rattle.rand_core.specs.Pcg32Seed.{pcg32_seed}
use Rattle.rand_pcg.specs.Pcg.{pcg32_of_seed}
use Rattle.scc_mesh.specs.Scenes.{about_in}
use Rattle.chip_run.specs.Crews.{AllRest, CrewStands, all_left}
use Rattle.chip_run.proofs.CrewLaws.{below_all, moved_falls, round_falls, stands_both, stands_first}
use Rattle.chip_run.proofs.RestLaws.{all_rest_by, ends_with_by, none_drafts}
use Rattle.trace_run.proofs.RoundLaws.{at_first, at_next}
use Rattle.trace_run.proofs.SeenLaws.{still_both, told_still, told_wanted}
use Rattle.trace_run.proofs.runs.run_seen.Goals as goal

pub loop-picks-init : goal.loop-picks-init
loop-picks-init g c = record {
  stands = stands_first g.W.Worker.behaviour c.args.chip.now c.args.crew.now c.requires.crew;
  order = (0, at_first g.W.Worker.behaviour (g.N.Witness.wanted_after c.args.witness) (pcg32_of_seed (pcg32_seed 16 c.args.seed)) c.seed_from_u64-picks.result c.args.chip.now c.args.crew.now c.seed_from_u64-picks.ensures);
  seen = c.requires.seen;
}

pub loop-picks-preserved : goal.loop-picks-preserved
loop-picks-preserved g c =
    let still =
    still_both (g.N.Witness.wanted_after c.loop-picks.witness) (g.N.Witness.wanted_after c.round-witness.result) (g.N.Witness.wanted_after c.sweep-came.result.1)
    c.round-witness.ensures.wanted c.sweep-came.ensures.wanted in
    let yes : c.listens-listens.result ≡ true = search rules in
    let told =
    told_wanted (g.N.Witness.noted c.loop-picks.witness) (g.N.Witness.wanted_after c.loop-picks.witness) c.loop-picks.chip (c.listens-listens.ensures.wanted yes) c.loop-picks.invariant.seen.seen in
    record {
      stands = stands_both g.W.Worker.behaviour c.args.chip.now c.round-witness.new.chip c.sweep-came.new.chip c.args.crew.now c.round-witness.new.crew c.sweep-came.new.crew
          (stands_both g.W.Worker.behaviour c.args.chip.now c.loop-picks.chip c.round-witness.new.chip c.args.crew.now c.loop-picks.crew c.round-witness.new.crew
          c.loop-picks.invariant.stands c.round-witness.ensures.stands)
          c.sweep-came.ensures.swept.stands;
      order = (
        c.loop-picks.invariant.order.0 + 1,
        (at_next g.W.Worker.behaviour (g.N.Witness.wanted_after c.loop-picks.witness) (g.N.Witness.wanted_after c.sweep-came.result.1)
            (pcg32_of_seed (pcg32_seed 16 c.args.seed)) c.loop-picks.picks c.round-witness.new.picks c.loop-picks.invariant.order.0
            c.args.chip.now c.loop-picks.chip c.round-witness.new.chip c.sweep-came.new.chip c.args.crew.now c.loop-picks.crew c.round-witness.new.crew c.sweep-came.new.crew
            c.loop-picks.invariant.order.1 still (told_still (g.N.Witness.wanted_after c.loop-picks.witness) (g.N.Witness.wanted_after c.sweep-came.result.1) c.loop-picks.chip still told)
            c.loop-picks.invariant.stands.goes.count c.round-witness.ensures.stands.goes.count c.round-witness.ensures.picks c.round-witness.ensures.order
            c.sweep-came.ensures.order).at,
      );
      seen = c.sweep-came.ensures.seen;
    }

pub loop-picks-smaller : goal.loop-picks-smaller
loop-picks-smaller g c =
    let s = about_in c.args.chip.now in
    let w = g.W.Worker.behaviour in
    let here = c.loop-picks.invariant.stands.goes.about in
    below_all (all_left w s c.sweep-came.new.crew) (all_left w s c.round-witness.new.crew) (all_left w s c.loop-picks.crew)
    (moved_falls w c.sweep-came.result.0 (length c.round-witness.new.crew) c.args.chip.now c.round-witness.new.chip c.sweep-came.new.chip
    c.round-witness.new.crew c.sweep-came.new.crew (sym c.end.ensures.gives ∙ c.in_default.is) (c.round-witness.ensures.stands.goes.about ∙ here) c.sweep-came.ensures.swept.swept)
    (round_falls w c.args.chip.now c.loop-picks.chip c.round-witness.new.chip c.loop-picks.crew c.round-witness.new.crew here c.round-witness.ensures.stands.goes)

pub returns-in-Some : goal.returns-in-Some
returns-in-Some g c =
    let w = g.W.Worker.behaviour in
    let stands : CrewStands w c.args.chip.now c.args.crew.now c.sweep-came.new.chip c.sweep-came.new.crew =
    stands_both w c.args.chip.now c.round-witness.new.chip c.sweep-came.new.chip c.args.crew.now c.round-witness.new.crew c.sweep-came.new.crew
    (stands_both w c.args.chip.now c.loop-picks.chip c.round-witness.new.chip c.args.crew.now c.loop-picks.crew c.round-witness.new.crew c.loop-picks.invariant.stands c.round-witness.ensures.stands)
    c.sweep-came.ensures.swept.stands in
    let ended = sym c.end.ensures.gives ∙ c.in-Some.is in
    let rests = subst (λ (n : ℕ). AllRest w c.sweep-came.new.chip c.sweep-came.new.crew n) (sym c.sweep-came.ensures.swept.stands.goes.count)
    (all_rest_by w c.sweep-came.result.0 c.in-Some.end (length c.round-witness.new.crew) c.round-witness.new.chip c.round-witness.new.crew c.sweep-came.new.chip c.sweep-came.new.crew
    ended c.sweep-came.ensures.swept.swept) in
    let still =
    still_both (g.N.Witness.wanted_after c.loop-picks.witness) (g.N.Witness.wanted_after c.round-witness.result) (g.N.Witness.wanted_after c.sweep-came.result.1)
    c.round-witness.ensures.wanted c.sweep-came.ensures.wanted in
    let yes : c.listens-listens.result ≡ true = search rules in
    let told =
    told_wanted (g.N.Witness.noted c.loop-picks.witness) (g.N.Witness.wanted_after c.loop-picks.witness) c.loop-picks.chip (c.listens-listens.ensures.wanted yes) c.loop-picks.invariant.seen.seen in
    let at = at_next w (g.N.Witness.wanted_after c.loop-picks.witness) (g.N.Witness.wanted_after c.sweep-came.result.1)
    (pcg32_of_seed (pcg32_seed 16 c.args.seed)) c.loop-picks.picks c.round-witness.new.picks c.loop-picks.invariant.order.0
    c.args.chip.now c.loop-picks.chip c.round-witness.new.chip c.sweep-came.new.chip c.args.crew.now c.loop-picks.crew c.round-witness.new.crew c.sweep-came.new.crew
    c.loop-picks.invariant.order.1 still (told_still (g.N.Witness.wanted_after c.loop-picks.witness) (g.N.Witness.wanted_after c.sweep-came.result.1) c.loop-picks.chip still told)
    c.loop-picks.invariant.stands.goes.count c.round-witness.ensures.stands.goes.count c.round-witness.ensures.picks c.round-witness.ensures.order
    c.sweep-came.ensures.order in
    record {
      stands = stands;
      seen = c.sweep-came.ensures.seen;
      ends = record {
        ran = record {
          rests = rests;
          answer = ends_with_by w c.sweep-came.result.0 c.in-Some.end (length c.round-witness.new.crew) c.round-witness.new.chip c.round-witness.new.crew c.sweep-came.new.chip c.sweep-came.new.crew
              ended (sym c.sweep-came.ensures.swept.stands.goes.count) c.sweep-came.ensures.swept.swept;
          no_draft = none_drafts w c.sweep-came.new.chip c.sweep-came.new.crew stands.is_crew.each rests;
          order = (c.loop-picks.invariant.order.0 + 1, at.at.turns);
        };
        more = c.loop-picks.invariant.order.0;
        heard = at.heard;
      };
    }
