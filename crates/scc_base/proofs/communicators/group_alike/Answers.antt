use Rattle.std.proofs.Common.{slice_index, arith, length, ◌<◌, ◌∙◌}
use Rattle.std.proofs.lemmas.List.{length-set}
use Rattle.scc_base.specs.Groups.{place_in, root_in}
use Rattle.scc_base.proofs.TableLemmas.{set_next}
use Rattle.scc_base.proofs.communicators.group_alike.Goals as goal

pub loop-r-preserved : goal.loop-r-preserved
loop-r-preserved c =
    let kept = c.loop-r.invariant in
    let low = c.loop-r-test.true in
    let roots_fit : c.loop-r.r < length c.loop-r.roots = omega arith in
    let places_fit : c.loop-r.r < length c.loop-r.places = omega arith in (
      length-set c.loop-r.roots c.loop-r.r c.first_alike.result ∙ kept.0,
      length-set c.loop-r.places c.loop-r.r c.count_alike.result ∙ kept.1,
      set_next c.loop-r.roots c.loop-r.r c.first_alike.result (λ r. root_in (λ x. slice_index c.args.labels.now x) r) roots_fit kept.2 c.first_alike.ensures.lowest,
      set_next c.loop-r.places c.loop-r.r c.count_alike.result (λ r. place_in (λ x. slice_index c.args.labels.now x) r) places_fit kept.3 c.count_alike.ensures.counts,
    )
