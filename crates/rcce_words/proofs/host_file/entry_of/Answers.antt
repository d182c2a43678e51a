use Rattle.std.proofs.Common.{drop, refl}
use Rattle.std.specs.Char.{is_ascii_whitespace}
use Rattle.std.specs.List.{prefix_len}
use Rattle.std.proofs.lemmas.Str.Ascii.{trim_ascii_is}
use Rattle.texts.specs.Cuts.{without_comment}
use Rattle.rcce_words.proofs.host_file.entry_of.Goals as goal

pub returns : goal.returns
returns c =
    let text = without_comment c.args.line.now in
    trim_ascii_is text _ (drop (prefix_len is_ascii_whitespace text) text) refl (rw c.uncommented.ensures at c.trim_ascii.ensures.value)
