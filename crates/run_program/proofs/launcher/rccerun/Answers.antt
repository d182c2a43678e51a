use Rattle.std.proofs.Common.{ap, map, string_bytes, sym, ◌∙◌}
use Rattle.std.proofs.lemmas.Bool.{false≢true}
use Rattle.scc_mesh.specs.Scenes.{is_chip_open}
use Rattle.outcomes.proofs.PromiseLemmas.{keeps_promises}
use Rattle.run_program.specs.Program.{rccerun}
use Rattle.run_program.proofs.ChipLemmas.{ends_loaded, ends_refused}
use Rattle.run_program.proofs.LoadLemmas.{made_words}
use Rattle.rcce_words.specs.CommandLine.{parse_command}
use Rattle.run_program.proofs.launcher.rccerun.Goals as goal

pub run_loaded-requires-clause-made : goal.run_loaded-requires-clause-made
run_loaded-requires-clause-made g c = λ lifetimes outlive.
    let words = map string_bytes c.args.words.now in
    made_words words (parse_command words) _ _ c.in-Ok.loaded c.in-Ok.ensures

pub returns-in-Ok : goal.returns-in-Ok
returns-in-Ok g c =
    let ended = ends_loaded (map string_bytes c.args.words.now) _ _ _ _ _ _ _ c.in-Ok.ensures c.run_loaded.ensures.ran in
    record {
      promises = keeps_promises rccerun _ _ _ _ _ _ (ended.0, ended.1, ended.2);
      history = ended;
      legal = c.run_loaded.ensures.legal;
    }

pub returns-in-Err : goal.returns-in-Err
returns-in-Err g c =
    let ended = ends_refused (map string_bytes c.args.words.now) _ _ _ _ _ _ _ c.in-Err.ensures c.deliver.ensures c.requires.blank in
    record {
      promises = keeps_promises rccerun _ _ _ _ _ _ (ended.0, ended.1, ended.2);
      history = ended;
      legal = λ opened. absurd (false≢true (sym (ap is_chip_open c.requires.blank) ∙ opened));
    }
