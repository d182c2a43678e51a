use Rattle.std.proofs.Common.{map, refl, string_bytes}
use Rattle.run_program.proofs.LoadLemmas.{loads_made, loads_work}
use Rattle.run_program.proofs.loading.load_job.Goals as goal

pub returns-in-Script : goal.returns-in-Script
returns-in-Script g c =
    loads_work (map string_bytes c.args.words.now) _ c.args.job _ c.in-Script.at _ _ _ refl c.in-Script.is (rw c.word_at.ensures at c.load_after.ensures)

pub returns-in-Gen : goal.returns-in-Gen
returns-in-Gen g c = loads_made (map string_bytes c.args.words.now) _ c.args.job _ c.in-Gen.seed _ _ refl c.in-Gen.is (c.load_made.ensures (g.F.Files.seen c.args.files.now))
