use Rattle.std.proofs.Common.{◌≡◌, None, inl, rules}
use Rattle.std.proofs.Math.Logic.{∥∥₁_map}
use Rattle.run_program.specs.Loading.{asked_by}
use Rattle.trace_script.proofs.TraceLaws.{traced_loaded}
use Rattle.trace_script.proofs.launcher.trace_loaded.Goals as goal

pub returns-then-is_err-clause-traces : goal.returns-then-is_err-clause-traces
returns-then-is_err-clause-traces g c = let blank : c.open.new.self ≡ None = search rules in ∣ inl (c.complain-then-is_err.ensures, blank) ∣₁

pub returns-clause-traces : goal.returns-clause-traces
returns-clause-traces g c = ∥∥₁_map c.trace_crew.ensures.traces (traced_loaded (asked_by c.args.loaded.now) _ _ _ c.trace_crew.result)

-- Names the goal, so that the prover rejects a wrong body at once, without a search.
pub trace_crew-requires-clause-evictors : goal.trace_crew-requires-clause-evictors
trace_crew-requires-clause-evictors g c = search rules
