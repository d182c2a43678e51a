-- Expected outcomes of the test program, computed.
use Rattle.std.proofs.Common.{◌≡◌, ℕ, List, [], ◌∷◌, refl}
use Rattle.std.specs.Prelude.{codes, decimal}
use Rattle.rcce_io.specs.Files.{NamedFile}
use Rattle.outcomes.specs.declared.status.Status.TheVariants as status
use Rattle.outcomes.specs.Outcomes.{Outcome}
use Rattle.outcomes.specs.Plans.{expected_outcome}
use Rattle.command_rows.specs.LineCount.{lines}

abbrev one_file : List NamedFile
one_file = record { name = codes "a"; contents = codes "one\ntwo\nthree" } ∷ []

abbrev says : List ℕ → Outcome
says text = record { status = status.Files; out = []; err = text }

counted : (expected_outcome lines (codes "a" ∷ []) one_file).status ≡ status.Finished
counted = refl

an_absent_file : expected_outcome lines (codes "b" ∷ []) one_file ≡ says (codes "lines: b: absent\n")
an_absent_file = refl

refused_words : (expected_outcome lines (codes "a" ∷ codes "a" ∷ []) one_file).err ≡ codes "lines: words refused\n"
refused_words = refl
