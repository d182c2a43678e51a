use Rattle.std.proofs.Common.{◌≡◌, ℕ, option_map, true, refl, sym, ◌∙◌, ap, subst}
use Rattle.scc_base.specs.declared.events.Access.TheVariants.{Store}
use Rattle.scc_proto.specs.Moves.{after}
use Rattle.scc_proto.specs.Permission.{permits}
use Rattle.scc_proto.specs.Records.{change_held, is_permitted, record_after}
use Rattle.scc_proto.specs.Tables.{table_with}
use Rattle.rank_monitor.specs.Following.{event_of}
use Rattle.rank_monitor.specs.Held.{KeepsHeld}
use Rattle.rank_monitor.specs.Steps.{move_of}
use Rattle.rank_monitor.specs.Uses.{forget_by}
use Rattle.rank_monitor.proofs.MonitorLaws.{refused, stands_held, store_moves, store_permitted, took}
use Rattle.rank_monitor.proofs.monitors.RankMonitor.store.Goals as goal

pub returns-then-not-permits-clause-takes : goal.returns-then-not-permits-clause-takes
returns-then-not-permits-clause-takes c =
    let m = c.args.self.now in
    let at = c.number.ensures.gives ∙ c.core.ensures.gives in
    let step = c.store_step-step.result in
    refused m _ (event_of Store c.args.place c.args.value) _ refl refl (λ rec f.
    let flags = sym (f.held c.number.result c.number.ensures.below) in
    let gives = c.store_step-step.ensures.gives rec (ap rec.held (sym at) ∙ flags) in (
      store_permitted m.setup m.rank rec c.args.place c.args.value c.use_of-of.result c.use_of-of.ensures.role ∙ (λ i. permits (sym m.size i) (sym gives i) rec)
          ∙ sym (c.permits.ensures.decides rec f.stands) ∙ c.if-not-permits.true,
      record { stands = f.stands; held = f.held },
    ))

pub returns-clause-takes : goal.returns-clause-takes
returns-clause-takes c =
    let m = c.args.self.now in
    let place = c.args.place in
    let u = c.use_of-of.result in
    let role = c.use_of-of.ensures.role in
    let at = c.number.ensures.gives ∙ c.core.ensures.gives in
    let step = c.store_step-step.result in
    took m _ (event_of Store place c.args.value) c.make-call.result refl refl (λ rec f.
    let flags = sym (f.held c.number.result c.number.ensures.below) in
    let gives = c.store_step-step.ensures.gives rec (ap rec.held (sym at) ∙ flags) in
    let permitted : permits m.work.size (move_of step) rec ≡ true = sym (c.permits.ensures.decides rec f.stands) ∙ c.if-not-permits.false in
    let may : is_permitted m.setup m.rank rec (event_of Store place c.args.value) ≡ true
    = store_permitted m.setup m.rank rec place c.args.value u role ∙ (λ i. permits (sym m.size i) (sym gives i) rec) ∙ permitted in
    let moved = c.make-call.ensures.moves rec f.stands permitted in
    let becomes : record_after m.setup m.rank rec (event_of Store place c.args.value) ≡ change_held (forget_by u) place.core (after m.work.size (move_of step) rec)
    = store_moves m.setup m.rank rec place c.args.value u role may ∙ (λ i. change_held (forget_by u) place.core (after (sym m.size i) (sym gives i) rec)) in
    let held = subst (λ (k : ℕ). KeepsHeld c.forget_flags.new.held (table_with rec.held k (option_map (forget_by u) (rec.held k)))) c.core-2.ensures.gives (c.forget_flags.ensures.forgets rec.held f.held) in
    let now = change_held (forget_by u) place.core (after m.work.size (move_of step) rec) in
    (may, (now, becomes, record { stands = stands_held c.make-call.new.self (after m.work.size (move_of step) rec) now.held moved.stands; held = held }, moved.adds)))
