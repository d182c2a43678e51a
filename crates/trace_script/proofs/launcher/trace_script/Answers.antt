use Rattle.std.proofs.Common.{ap, map, string_bytes, sym, ◌∙◌}
use Rattle.std.proofs.Math.Logic.{∥∥₁_map}
use Rattle.std.proofs.lemmas.Bool.{false≢true}
use Rattle.scc_mesh.specs.Scenes.{is_chip_open}
use Rattle.run_program.proofs.LoadLemmas.{made_words}
use Rattle.rcce_words.specs.CommandLine.{parse_command}
use Rattle.trace_script.proofs.WordLaws.{traces_loaded, traces_refused}
use Rattle.trace_script.proofs.launcher.trace_script.Goals as goal

pub trace_loaded-requires-clause-made : goal.trace_loaded-requires-clause-made
trace_loaded-requires-clause-made g c =
    let words = map string_bytes c.args.words.now in
    made_words words (parse_command words) _ _ c.in-Ok.loaded c.in-Ok.ensures

pub returns-in-Ok-clause-traces : goal.returns-in-Ok-clause-traces
returns-in-Ok-clause-traces g c =
    ∥∥₁_map c.trace_loaded.ensures.traces (traces_loaded (map string_bytes c.args.words.now) _ _ _ _ _ c.in-Ok.loaded c.in-Ok.ensures c.trace_loaded.result)

pub returns-in-Err-clause-traces : goal.returns-in-Err-clause-traces
returns-in-Err-clause-traces g c =
    ∣ traces_refused (map string_bytes c.args.words.now) _ _ _ _ _ c.in-Err.complaint c.complain.result c.in-Err.ensures c.complain.ensures c.requires.blank ∣₁

pub returns-in-Err-clause-legal : goal.returns-in-Err-clause-legal
returns-in-Err-clause-legal g c = λ opened. absurd (false≢true (sym (ap is_chip_open c.requires.blank) ∙ opened))
