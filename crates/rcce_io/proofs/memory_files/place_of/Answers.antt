use Rattle.std.proofs.Common.{rules, tests, string_bytes, ◌∙◌, ap, option_map}
use Rattle.std.specs.Str.{bytes_eq}
use Rattle.std.proofs.lemmas.Iterator.{YieldsList-from_slice}
use Rattle.std.proofs.lemmas.Iterator.Search.{position_from_yields_List}
use Rattle.rcce_io.specs.MemoryFiles.{contents_at}
use Rattle.rcce_io.proofs.MemoryLemmas.{contents_of-position}
use Rattle.rcce_io.proofs.memory_files.place_of.Goals as goal

pub returns-clause-contents : goal.returns-clause-contents
returns-clause-contents c =
    ap (option_map (contents_at c.args.files.now))
    (position_from_yields_List (λ file. bytes_eq (string_bytes file.name) c.args.name.now) _ _ c.position.result
    c.position.ensures.ran (YieldsList-from_slice c.args.files.now (cc)) (λ x b q k. search (rules, tests)))
    ∙ contents_of-position c.args.name.now c.args.files.now
