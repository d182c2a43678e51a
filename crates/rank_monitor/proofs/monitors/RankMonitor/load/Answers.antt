use Rattle.std.proofs.Common.{◌≡◌, ◌&&◌, ℕ, List, Option, None, option_map, is_some, true, false, refl, sym, ◌∙◌, ap, subst}
use Rattle.scc_base.specs.declared.events.Access.TheVariants.{Load}
use Rattle.scc_proto.specs.Moves.{after}
use Rattle.scc_proto.specs.Permission.{permits}
use Rattle.scc_proto.specs.Records.{change_held, record_after}
use Rattle.scc_proto.specs.Tables.{table_with}
use Rattle.rank_monitor.specs.Following.{event_of}
use Rattle.rank_monitor.specs.Held.{KeepsHeld}
use Rattle.rank_monitor.specs.Steps.{move_of}
use Rattle.rank_monitor.specs.Uses.{is_flags_use, note_by}
use Rattle.rank_monitor.specs.declared.held.NotedFlags.{NotedFlags}
use Rattle.rank_monitor.proofs.MonitorLaws.{load_moves, load_notes, load_permitted, stands_held, took}
use Rattle.rank_monitor.proofs.monitors.RankMonitor.load.Goals as goal

pub returns-then-note_flags-clause-takes : goal.returns-then-note_flags-clause-takes
returns-then-note_flags-clause-takes c =
    let m = c.args.self.now in
    let place = c.args.place in
    let u = c.use_of-of.result in
    let core = c.core.ensures.gives in
    took m _ (event_of Load place c.args.value) None refl refl (λ rec f.
    let noted : (is_flags_use u && is_some (rec.held place.core)) ≡ true
    = ap (λ (k : ℕ). is_flags_use u && is_some (rec.held k)) (sym core) ∙ sym (c.note_flags.ensures.tells rec.held f.held) ∙ c.if-note_flags.true in
    let becomes = load_notes m.setup m.rank rec place c.args.value u c.use_of-of.ensures.role noted in
    let held = subst (λ (k : ℕ). KeepsHeld c.note_flags.new.held (table_with rec.held k (option_map (note_by u c.args.value) (rec.held k)))) core (c.note_flags.ensures.notes rec.held f.held) in
    (refl, (change_held (note_by u c.args.value) place.core rec, becomes, record { stands = stands_held m.work rec (change_held (note_by u c.args.value) place.core rec).held f.stands; held = held }, refl)))

pub returns-clause-takes : goal.returns-clause-takes
returns-clause-takes c =
    let m = c.args.self.now in
    let place = c.args.place in
    let u = c.use_of-of.result in
    let core = c.core.ensures.gives in
    let step = c.load_step-step.result in
    let gives = c.load_step-step.ensures.gives in
    let other = c.note_flags.ensures.other c.if-note_flags.false in
    took m _ (event_of Load place c.args.value) c.make.result refl refl (λ rec f.
    let unnoted : (is_flags_use u && is_some (rec.held place.core)) ≡ false
    = ap (λ (k : ℕ). is_flags_use u && is_some (rec.held k)) (sym core) ∙ sym (c.note_flags.ensures.tells rec.held f.held) ∙ c.if-note_flags.false in
    let may : permits m.work.size (move_of step) rec ≡ true = (λ i. permits (m.size i) (gives i) rec) ∙ load_permitted m.setup m.rank rec c.args.value u in
    let moved = c.make.ensures.moves rec f.stands may in
    let becomes : record_after m.setup m.rank rec (event_of Load place c.args.value) ≡ after m.work.size (move_of step) rec
    = load_moves m.setup m.rank rec place c.args.value u c.use_of-of.ensures.role unnoted ∙ (λ i. after (sym m.size i) (sym gives i) rec) in
    (refl, (after m.work.size (move_of step) rec, becomes, record { stands = moved.stands; held = subst (λ (h : List (Option NotedFlags)). KeepsHeld h rec.held) (sym other) f.held }, moved.adds)))
