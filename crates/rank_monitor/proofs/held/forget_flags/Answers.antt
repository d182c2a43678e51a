use Rattle.std.proofs.Common.{◌≡◌, ◌<◌, ℕ, Option, Some, length, option_map, slice_set, sym, ◌∙◌, ap, subst, arith}
use Rattle.scc_proto.specs.Stages.{FlagWords}
use Rattle.scc_proto.specs.Tables.{table_with}
use Rattle.rank_monitor.specs.Held.{KeepsHeld, flag_words}
use Rattle.rank_monitor.specs.Uses.{forget_by}
use Rattle.rank_monitor.specs.declared.held.NotedFlags.{NotedFlags}
use Rattle.rank_monitor.specs.declared.uses.Use.{Use}
use Rattle.rank_monitor.proofs.MonitorLaws.{held_put}
use Rattle.rank_monitor.proofs.held.forget_flags.Goals as goal

pub returns-in-SignalFlags : goal.returns-in-SignalFlags
returns-in-SignalFlags c = record {
  forgets = λ records keeps.
      let held = c.args.held.now in
      let core = c.number-at.result in
      let flags = c.in-Some.flags in
      let slot : Option NotedFlags = Some c.with_word-words.result in
      let was : records core ≡ Some (flag_words flags) = sym (keeps core c.number-at.ensures.below) ∙ ap (option_map flag_words) c.in-Some.is in
      let now : option_map flag_words slot ≡ option_map (forget_by c.args.of.now) (records core)
      = ap (λ (f : FlagWords). Some f) c.with_word-words.ensures.gives ∙ ap (λ (u : Use). Some (forget_by u (flag_words flags))) (sym c.in-SignalFlags.is) ∙ ap (option_map (forget_by c.args.of.now)) (sym was) in
      let within : core < length held = omega arith in
      subst (λ (k : ℕ). KeepsHeld (slice_set held core slot) (table_with records k (option_map (forget_by c.args.of.now) (records k)))) c.number-at.ensures.gives
      (held_put held records core slot (option_map (forget_by c.args.of.now) (records core)) within now keeps);
}
