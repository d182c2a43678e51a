use Rattle.std.proofs.Common.{codes, map, string_bytes}
use Rattle.rcce_words.specs.CommandLine.{parse_command}
use Rattle.run_program.proofs.LoadLemmas.{loads_nothing, loads_words}
use Rattle.run_program.proofs.loading.load.Goals as goal

pub returns-in-Ok : goal.returns-in-Ok
returns-in-Ok g c =
    let words = map string_bytes c.args.words.now in
    loads_words words (parse_command words) c.in-Ok.job _ _ _ c.in-Ok.ensures.gives c.load_job.ensures

pub returns-in-Err : goal.returns-in-Err
returns-in-Err g c =
    let words = map string_bytes c.args.words.now in
    loads_nothing words (parse_command words) c.in-Err.fault _ _ c.in-Err.ensures.gives (c.complaint.ensures.gives (codes "rccerun"))
