use Rattle.std.proofs.Common.{codes, map, string_bytes, None, Some}
use Rattle.outcomes.specs.Numbers.{file_named}
use Rattle.rcce_words.proofs.ScriptLemmas.{meant_by}
use Rattle.lab_program.specs.Program.{lab_file_plan}
use Rattle.lab_program.proofs.PlanLemmas.{tells_named}
use Rattle.lab_program.proofs.launcher.run_words.Goals as goal

pub returns-in-Some : goal.returns-in-Some
returns-in-Some g c =
    let file = c.in-Some.file.now in
    let named = file_named (map string_bytes c.args.words.now) in
    record {
      meant = meant_by (codes "rccelab") lab_file_plan file named _ _ _ c.in-Some.ensures c.run_file.ensures.comes;
      tells = tells_named (g.F.Files.seen c.args.files.now) (g.F.Files.seen c.run_file.new.files) (Some file) named c.run_file.new.left _ c.in-Some.ensures c.run_file.ensures.tells;
    }

pub returns-in-None-clause-tells : goal.returns-in-None-clause-tells
returns-in-None-clause-tells g c =
    tells_named (g.F.Files.seen c.args.files.now) (g.F.Files.seen c.args.files.now) None (file_named (map string_bytes c.args.words.now)) c.args.left.now _ c.in-None.ensures c.requires.blank
