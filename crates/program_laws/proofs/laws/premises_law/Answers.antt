use Rattle.std.proofs.Common.{refl}
use Rattle.outcomes.specs.Plans.{expected_outcome}
use Rattle.program_laws.proofs.PremiseLemmas.{files_for, files_stay, sink_for, sink_with, sinks_show, sinks_stay}
use Rattle.program_laws.proofs.laws.premises_law.Goals as goal

pub returns : goal.returns
returns c = record {
  met = λ program words told.
      let o = expected_outcome program words told in
      (files_for told, sink_for o.out, sink_for o.err, sink_with o.out, sink_with o.err, refl, files_stay told, sinks_stay o, sinks_show o);
}
