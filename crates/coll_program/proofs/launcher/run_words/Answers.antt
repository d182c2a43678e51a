use Rattle.std.proofs.Common.{map, codes, sym}
use Rattle.std.specs.Prelude.{string_bytes}
use Rattle.coll_program.proofs.RunLemmas.{refuses_words, runs_job}
use Rattle.coll_program.proofs.launcher.run_words.Goals as goal

pub returns-in-Some : goal.returns-in-Some
returns-in-Some c = runs_job (map string_bytes c.args.words.now) c.launch.new.chip c.in-Some.job c.launch.result (sym c.in-Some.ensures.gives) c.launch.ensures

pub returns-in-None : goal.returns-in-None
returns-in-None c = refuses_words (map string_bytes c.args.words.now) c.args.chip.now c.words.result (sym c.in-None.ensures.gives) (c.words.ensures (codes "rccecoll")) c.requires.blank
