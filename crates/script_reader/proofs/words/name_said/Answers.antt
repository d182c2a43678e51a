use Rattle.std.proofs.Common.{◌∙◌, ap, arith, length, sym}
use Rattle.script_reader.proofs.WordLemmas.{IsUtf8-from_name, name-short}
use Rattle.script_reader.proofs.words.name_said.Goals as goal

pub new-requires : goal.new-requires
new-requires c = omega (arith, ap length c.in-Ok.ensures.cases.0, name-short c.args.word.now (sym c.is_name.ensures ∙ c.if-not-is_name.false))

pub unreachable-requires : goal.unreachable-requires
unreachable-requires c = c.in-Err.ensures.cases.0 (IsUtf8-from_name c.args.word.now (sym c.is_name.ensures ∙ c.if-not-is_name.false))
