use Rattle.std.proofs.Common.{◌≡◌, ◌==◌, ◌<◌, ℕ, Option, Some, None, length, slice_set, true, refl, sym, ◌∙◌, ap, subst, arith}
use Rattle.scc_base.specs.declared.events.Access.TheVariants.{Take}
use Rattle.scc_proto.specs.Stages.{FlagWords}
use Rattle.scc_proto.specs.Tables.{table_with}
use Rattle.scc_proto.proofs.Tests.{eqb_other}
use Rattle.rank_monitor.specs.Following.{event_of}
use Rattle.rank_monitor.specs.Held.{KeepsHeld}
use Rattle.rank_monitor.specs.declared.held.NotedFlags.{NotedFlags}
use Rattle.rank_monitor.proofs.MonitorLaws.{held_put, not_held, stands_held, take_fails, take_holds, took}
use Rattle.rank_monitor.proofs.monitors.RankMonitor.hold.Goals as goal

pub returns-then-value-ne1-clause-takes : goal.returns-then-value-ne1-clause-takes
returns-then-value-ne1-clause-takes c =
    let m = c.args.self.now in
    let at = c.number-at.ensures.gives ∙ c.core.ensures.gives in
    took m _ (event_of Take c.args.place c.args.value) None refl refl (λ rec f.
    let free = not_held m.held rec.held c.number-at.result c.args.place.core at c.number-at.ensures.below (sym c.is_some.ensures ∙ c.if-is_some.false) f.held in
    let becomes = take_fails m.setup m.rank rec c.args.place c.args.value free (eqb_other c.args.value 1 c.if-value-ne1.true) in
    (free, (rec, becomes, record { stands = f.stands; held = f.held }, refl)))

pub returns-clause-takes : goal.returns-clause-takes
returns-clause-takes c =
    let m = c.args.self.now in
    let at = c.number-at.ensures.gives ∙ c.core.ensures.gives in
    took m _ (event_of Take c.args.place c.args.value) None refl refl (λ rec f.
    let free = not_held m.held rec.held c.number-at.result c.args.place.core at c.number-at.ensures.below (sym c.is_some.ensures ∙ c.if-is_some.false) f.held in
    let one : (c.args.value == 1) ≡ true = ap (λ (n : ℕ). n == 1) c.if-value-ne1.false in
    let becomes = take_holds m.setup m.rank rec c.args.place c.args.value free one in
    let within : c.number-at.result < length m.held = omega arith in
    let none : Option ℕ = None in
    let now : Option FlagWords = Some (record { sent = none; ready = none }) in
    let slot : Option NotedFlags = Some (record { sent = none; ready = none }) in
    let held = held_put m.held rec.held c.number-at.result slot now within refl f.held in (
      free,
      (
        record rec { held = table_with rec.held c.args.place.core now },
        becomes,
        record {
          stands = stands_held m.work rec (table_with rec.held c.args.place.core now) f.stands;
          held = subst (λ (k : ℕ). KeepsHeld (slice_set m.held c.number-at.result slot) (table_with rec.held k now)) at held;
        },
        refl,
      ),
    ))
