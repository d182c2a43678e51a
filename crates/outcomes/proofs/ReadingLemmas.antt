-- What the reading of a file says to the plan that asks for it.
use Rattle.std.proofs.Common.{◌≡◌, ℕ, ◌+◌, ◌<◌, ◌≤◌, List, length, take, refl, sym, subst, ap, ◌∙◌, arith, inr, Option, Some, None, IfSome, Ok, Err}
use Rattle.std.proofs.lemmas.List.{length-take, take_all}
use Rattle.std.proofs.lemmas.Bool.{le-ltb, lt-ltb}
use Rattle.rcce_io.specs.Files.{FilesView, NamedFile, contents_of}
use Rattle.rcce_io.specs.Reading.{ReadsAll}
use Rattle.rcce_io.specs.declared.reading.ReadEnd.TheVariants as ends
use Rattle.outcomes.specs.Coming.{Comes, FileHolds}
use Rattle.outcomes.specs.Outcomes.{Outcome, no_memory, too_long}
use Rattle.outcomes.specs.Plans.{Plan}
use Rattle.outcomes.specs.Plans.Plan.{Runs, Refuses, Reads}

-- want of memory may stand for each plan, before any call on the files
pub lacks_memory : (program : List ℕ) (plan : Plan) (files : FilesView) → Comes program plan files files (no_memory program)
lacks_memory program (Runs ran) files = (refl, inr refl)
lacks_memory program (Refuses file line kind) files = (refl, inr refl)
lacks_memory program (Reads file limit next) files = (files, Err ends.Memory, refl, (refl, refl))

-- a longer file is refused
pub reads_long : (file : List ℕ) (limit : ℕ) (before after : FilesView) (bytes : List ℕ) → ReadsAll file limit before after (Ok bytes) → limit < length bytes →
    (program : List ℕ) (next : List ℕ → Plan) → Comes program (Reads file limit next) before after (too_long program file)
reads_long file limit before after bytes reads long program next = (after, Ok bytes, reads, rw (lt-ltb limit (length bytes) long) (refl, refl))

-- and bytes within the limit lead on
pub reads_short : (file : List ℕ) (limit : ℕ) (before between : FilesView) (bytes : List ℕ) → ReadsAll file limit before between (Ok bytes) → length bytes ≤ limit →
    (program : List ℕ) (next : List ℕ → Plan) (after : FilesView) (o : Outcome) → Comes program (next bytes) between after o → Comes program (Reads file limit next) before after o
reads_short file limit before between bytes reads short program next after o came =
    (between, Ok bytes, reads, rw (le-ltb limit (length bytes) short) came)

-- the first bytes that are fewer are all
take_whole : (n : ℕ) (whole bytes : List ℕ) → bytes ≡ take (n + 1) whole → length bytes ≤ n → whole ≡ bytes
take_whole n whole bytes is few =
    let count : length (take (n + 1) whole) ≤ n = subst (λ (b : List ℕ). length b ≤ n) is few in
    sym (is ∙ take_all (n + 1) whole (omega (arith, length-take (n + 1) whole, count)))

-- bytes within the limit stand in the file, where files are told
pub holds_short : (told : Option (List NamedFile)) (file : List ℕ) (limit : ℕ) (bytes : List ℕ) → length bytes ≤ limit
    → IfSome told (λ files. (whole : List ℕ) × (contents_of file files ≡ Some whole) × (bytes ≡ take (limit + 1) whole)) → FileHolds told file bytes
holds_short None file limit bytes few found = found
holds_short (Some files) file limit bytes few found = found.1 ∙ ap Some (take_whole limit found.0 bytes found.2 few)
