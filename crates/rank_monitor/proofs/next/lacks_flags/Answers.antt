use Rattle.std.proofs.Common.{ℕ, not, Option, is_none, option_and_then, sym, ◌∙◌, ap}
use Rattle.std.proofs.Math.Bool.{not-not}
use Rattle.scc_proto.specs.Records.{flags_in}
use Rattle.scc_proto.specs.Stages.{FlagWords}
use Rattle.rank_monitor.specs.Next.{lacks_flags}
use Rattle.rank_monitor.specs.Uses.{role_meant}
use Rattle.rank_monitor.specs.declared.uses.Use.{Use}
use Rattle.rank_monitor.proofs.next.lacks_flags.Goals as goal

pub returns-in-SignalFlags : goal.returns-in-SignalFlags
returns-in-SignalFlags c = record {
  tells = λ rec keeps.
      sym (not-not c.is_none.result) ∙ ap not (sym c.is_none.ensures)
      ∙ ap (λ (o : Option ℕ). is_none o)
      (c.noted_of.ensures.gives ∙ ap (λ (o : Option FlagWords). option_and_then (λ (flags : FlagWords). flags_in c.in-SignalFlags.signal flags) o) (keeps c.number.result c.number.ensures.below ∙ ap rec.held c.number.ensures.gives))
      ∙ ap (λ (u : Use). lacks_flags rec c.args.core (role_meant u)) (sym c.in-SignalFlags.is);
}
