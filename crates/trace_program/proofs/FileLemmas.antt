-- A file that is read to its end, block by block.
use Rattle.std.proofs.Common.{◌≡◌, ℕ, ◌+◌, ◌<◌, ◌≤◌, false, List, [], ◌++◌, append-nil, length, take, refl, Option, Some, None, Result, Ok, Err, sym, ◌∙◌, ap, subst, arith}
use Rattle.std.specs.Prelude.{IfSome, IsSome, option_and_then}
use Rattle.std.proofs.lemmas.List.{take-append-le, take_all}
use Rattle.rcce_io.specs.Files.{FilesView, NamedFile, Opens, contents_of, with_rest}
use Rattle.rcce_io.specs.Faults.{next_count}
use Rattle.rcce_io.specs.Reading.{ReadsAll, ReadsBlock, ReadsRest, SameFiles, whole_of}
use Rattle.rcce_io.specs.declared.files.Opened.TheVariants as opened
use Rattle.rcce_io.specs.declared.reading.ReadEnd.{ReadEnd}
use Rattle.rcce_io.specs.declared.reading.ReadEnd.TheVariants as ends

same_files : (before now : FilesView) → now ≡ with_rest now.rest before → SameFiles before now
same_files before now same = same ∙ (λ i. record { told = before.told; rest = now.rest; is_open = sym (ap (λ (f : FilesView). f.is_open) same) i; faults = before.faults })

module _ (limit : ℕ) (bytes : List ℕ) (before now : FilesView) (same : now ≡ with_rest now.rest before) (within : length bytes ≤ limit + 1) (whole : whole_of bytes now.rest ≡ before.rest) where
  abbrev IsFront : List ℕ → Type 0
  IsFront more = bytes ≡ take (limit + 1) more

  -- more was read than the limit
  pub rest_full : limit < length bytes → ReadsRest limit before now (Ok bytes)
  rest_full long = (same_files before now same, within, by now.rest before.rest whole)
    where
      by : (rest first : Option (List ℕ)) → whole_of bytes rest ≡ first → IfSome first IsFront
      by None first is = subst (λ (o : Option (List ℕ)). IfSome o IsFront) is tt
      by (Some more) first is = subst (λ (o : Option (List ℕ)). IfSome o IsFront) is (sym (take-append-le (limit + 1) bytes more (omega (arith, long)) ∙ take_all (limit + 1) bytes within))

  rest_none : IfSome now.rest (λ (none : List ℕ). none ≡ []) → ReadsRest limit before now (Ok bytes)
  rest_none ended = (same_files before now same, within, by now.rest before.rest whole ended)
    where
      by : (rest first : Option (List ℕ)) → whole_of bytes rest ≡ first → IfSome rest (λ (none : List ℕ). none ≡ []) → IfSome first IsFront
      by None first is end = subst (λ (o : Option (List ℕ)). IfSome o IsFront) is tt
      by (Some more) first is end =
          subst (λ (o : Option (List ℕ)). IfSome o IsFront) is (sym (ap (take (limit + 1)) (ap (λ (m : List ℕ). bytes ++ m) end ∙ append-nil bytes) ∙ take_all (limit + 1) bytes within))

  -- the file has ended
  pub rest_ended : (more : List ℕ) (room : ℕ) (later : FilesView) → ReadsBlock bytes more room now later (Ok false) → ReadsRest limit before later (Ok more)
  rest_ended more room later (stays, read, ended) =
      subst (λ (f : FilesView). ReadsRest limit before f (Ok more)) (sym stays) (subst (λ (b : List ℕ). ReadsRest limit before now (Ok b)) (sym read) (rest_none ended))

-- ---- a file that was opened

module _ (name : List ℕ) (limit : ℕ) (before between after : FilesView) (opens : Opens name before between opened.Open) where
  same_after : SameFiles between after → SameFiles before after
  same_after same =
      same
      ∙ (λ i. record { told = ap (λ (f : FilesView). f.told) opens.0 i; rest = after.rest; is_open = after.is_open; faults = ap (λ (f : FilesView). f.faults) opens.0 i })

  module _ (bytes : List ℕ) where
    abbrev IsFrontOf : List ℕ → Type 0
    IsFrontOf whole = bytes ≡ take (limit + 1) whole

    found_in : (files : List NamedFile) (o rest : Option (List ℕ)) → contents_of name files ≡ o → rest ≡ o → IsSome o → IfSome rest IsFrontOf → (whole : List ℕ) × (contents_of name files ≡ Some whole) × IsFrontOf whole
    found_in files None rest is same some read = absurd (cc)
    found_in files (Some whole) rest is same some read = (whole, is, subst (λ (o : Option (List ℕ)). IfSome o IsFrontOf) same read)

    found : (told : Option (List NamedFile)) (rest : Option (List ℕ)) → rest ≡ option_and_then (contents_of name) told → IfSome told (λ files. IsSome (contents_of name files)) → IfSome rest IsFrontOf
        → IfSome told (λ files. (whole : List ℕ) × (contents_of name files ≡ Some whole) × IsFrontOf whole)
    found None rest is some read = tt
    found (Some files) rest is some read = found_in files (contents_of name files) rest refl is some read

  pub all_read : (answer : Result (List ℕ) ReadEnd) → ReadsRest limit between after answer → ReadsAll name limit before after answer
  all_read (Ok bytes) (same, within, read) = (same_after same, within, found bytes before.told between.rest (ap (λ (f : FilesView). f.rest) opens.0) opens.1 read)
  all_read (Err ends.Absent) reads = absurd reads
  all_read (Err ends.Failed) reads =
      reads
      ∙ (λ i. record { told = ap (λ (f : FilesView). f.told) opens.0 i; rest = after.rest; is_open = after.is_open; faults = ap (λ (f : FilesView). next_count f.faults) opens.0 i })
  all_read (Err ends.Memory) reads = same_after reads
