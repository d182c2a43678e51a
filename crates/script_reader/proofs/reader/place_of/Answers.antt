use Rattle.std.proofs.Common.{ℕ, Bool, List, ◌∙◌, ap, length, rules, tests, unwrap_or}
use Rattle.std.proofs.lemmas.Iterator.{YieldsList-from_slice}
use Rattle.std.proofs.lemmas.Iterator.Search.{position_from_yields_List}
use Rattle.std.specs.Str.{bytes_eq}
use Rattle.texts.proofs.PlaceLemmas.{unwrapped_position}
use Rattle.script_reader.proofs.reader.place_of.Goals as goal

pub returns-clause-place : goal.returns-clause-place
returns-clause-place c =
    let names = c.args.names.now in
    let same : List ℕ → Bool = λ other. bytes_eq other c.args.name.now in
    let found = position_from_yields_List same _ _ c.position.result c.position.ensures.ran (YieldsList-from_slice names cc) (λ x b q k. search (rules, tests)) in
    c.unwrap_or.ensures ∙ ap (λ o. unwrap_or o (length names)) found ∙ unwrapped_position same names
