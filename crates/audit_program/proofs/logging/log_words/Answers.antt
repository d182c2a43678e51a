use Rattle.std.proofs.Common.{ap, codes, map, refl, string_bytes, sym, ◌∙◌}
use Rattle.std.proofs.lemmas.Bool.{false≢true}
use Rattle.scc_mesh.specs.Scenes.{is_chip_open}
use Rattle.audit_program.specs.Program.{command_of}
use Rattle.audit_program.proofs.RunPlanLemmas.{ends_refused, ends_words}
use Rattle.audit_program.proofs.logging.log_words.Goals as goal

pub returns-in-Some : goal.returns-in-Some
returns-in-Some g c = record {
  ends = ends_words (command_of (map string_bytes c.args.words.now)) c.in-Some.job _ _ _ _ _ _ c.in-Some.ensures.gives c.log_job.ensures.ends;
  legal = c.log_job.ensures.legal;
}

pub returns-in-None : goal.returns-in-None
returns-in-None g c = record {
  ends = ends_refused (command_of (map string_bytes c.args.words.now)) (g.F.Files.seen c.args.files.now) _ _ _ _ _ c.in-None.ensures.gives (refl, c.words-complaint.ensures (codes "rcceaudit")) c.deliver.ensures c.requires.blank;
  legal = λ opened. absurd (false≢true (sym (ap is_chip_open c.requires.blank) ∙ opened));
}
