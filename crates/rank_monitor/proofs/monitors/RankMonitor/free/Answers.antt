use Rattle.std.proofs.Common.{◌<◌, ℕ, Option, None, length, slice_set, not, refl, ◌∙◌, ap, subst, arith}
use Rattle.scc_base.specs.declared.events.Access.TheVariants.{Free}
use Rattle.scc_proto.specs.Stages.{FlagWords}
use Rattle.scc_proto.specs.Tables.{table_with}
use Rattle.rank_monitor.specs.Following.{event_of}
use Rattle.rank_monitor.specs.Held.{KeepsHeld}
use Rattle.rank_monitor.specs.declared.held.NotedFlags.{NotedFlags}
use Rattle.rank_monitor.proofs.MonitorLaws.{free_frees, held_put, is_held, stands_held, took}
use Rattle.rank_monitor.proofs.monitors.RankMonitor.free.Goals as goal

pub returns-clause-takes : goal.returns-clause-takes
returns-clause-takes c =
    let m = c.args.self.now in
    let at = c.number-at.ensures.gives ∙ c.core.ensures.gives in
    took m _ (event_of Free c.args.place c.args.value) None refl refl (λ rec f.
    let taken = is_held m.held rec.held c.number-at.result c.args.place.core at c.number-at.ensures.below (c.is_none.ensures ∙ ap not c.if-is_none.false) f.held in
    let becomes = free_frees m.setup m.rank rec c.args.place c.args.value taken in
    let within : c.number-at.result < length m.held = omega arith in
    let now : Option FlagWords = None in
    let slot : Option NotedFlags = None in
    let held = held_put m.held rec.held c.number-at.result slot now within refl f.held in (
      taken,
      (
        record rec { held = table_with rec.held c.args.place.core now },
        becomes,
        record {
          stands = stands_held m.work rec (table_with rec.held c.args.place.core now) f.stands;
          held = subst (λ (k : ℕ). KeepsHeld (slice_set m.held c.number-at.result slot) (table_with rec.held k now)) at held;
        },
        refl,
      ),
    ))
