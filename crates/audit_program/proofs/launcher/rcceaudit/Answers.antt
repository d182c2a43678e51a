use Rattle.std.proofs.Common.{Some, None, ap, codes, map, string_bytes, sym, ◌∙◌}
use Rattle.std.proofs.lemmas.Bool.{false≢true}
use Rattle.scc_mesh.specs.Scenes.{is_chip_open}
use Rattle.outcomes.specs.Numbers.{file_named}
use Rattle.outcomes.proofs.PromiseLemmas.{keeps_promises}
use Rattle.audit_program.specs.Program.{command_of, rcceaudit, rcceaudit_log}
use Rattle.audit_program.proofs.PlanLemmas.{named_meant, named_tells}
use Rattle.audit_program.proofs.launcher.rcceaudit.Goals as goal

pub returns-in-Some : goal.returns-in-Some
returns-in-Some g c =
    let words = map string_bytes c.args.words.now in
    let file = c.in-Some.file.now in
    record {
      logs = λ none. let e = c.in-Some.ensures ∙ none in absurd (cc);
      logs_history = λ none. let e = c.in-Some.ensures ∙ none in absurd (cc);
      promises = λ judge is.
          let ended = c.judge_log.ensures judge is in
          keeps_promises (rcceaudit judge) _ _ _ _ _ _ (ended.0, named_meant judge (codes "rcceaudit") (Some file) (file_named words) (command_of words) _ _ _ c.in-Some.ensures ended.1, ended.2);
      history = λ judge is.
          let ended = c.judge_log.ensures judge is in (
            ended.0,
            named_meant judge (codes "rcceaudit") (Some file) (file_named words) (command_of words) _ _ _ c.in-Some.ensures ended.1,
            ended.2,
            named_tells _ (Some file) (file_named words) (command_of words) _ ended.0 c.in-Some.ensures c.requires.blank,
          );
      legal = λ opened. absurd (false≢true (sym (ap is_chip_open c.requires.blank) ∙ opened));
    }

pub returns-in-None : goal.returns-in-None
returns-in-None g c =
    let words = map string_bytes c.args.words.now in
    let ended = c.log_words.ensures.ends in
    record {
      logs = λ none. keeps_promises rcceaudit_log _ _ _ _ _ _ (ended.0, ended.1, ended.2);
      logs_history = λ none. (ended.0, ended.1, ended.2, named_tells _ None (file_named words) (command_of words) _ ended.0 c.in-None.ensures ended.3);
      promises = λ judge is.
          keeps_promises (rcceaudit judge) _ _ _ _ _ _ (ended.0, named_meant judge (codes "rcceaudit") None (file_named words) (command_of words) _ _ _ c.in-None.ensures ended.1, ended.2);
      history = λ judge is. (
        ended.0,
        named_meant judge (codes "rcceaudit") None (file_named words) (command_of words) _ _ _ c.in-None.ensures ended.1,
        ended.2,
        named_tells _ None (file_named words) (command_of words) _ ended.0 c.in-None.ensures ended.3,
      );
      legal = c.log_words.ensures.legal;
    }
