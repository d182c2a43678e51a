use Rattle.std.proofs.Common.{map, string_bytes}
use Rattle.run_program.proofs.LoadLemmas.{loads_named, loads_unnamed}
use Rattle.run_program.proofs.loading.load_after.Goals as goal

pub returns-in-Some : goal.returns-in-Some
returns-in-Some g c =
    loads_named (map string_bytes c.args.words.now) _ c.args.job _ c.in-Some.at c.args.script.now _ _ _ c.in-Some.is (rw c.word_at.ensures at c.load_hosts.ensures)

pub returns-in-None : goal.returns-in-None
returns-in-None g c =
    loads_unnamed (map string_bytes c.args.words.now) _ c.args.job _ c.default_hosts.result c.args.script.now _ _ _ c.in-None.is c.default_hosts.ensures.gives c.load_script.ensures
