-- One more file in memory changes neither the bytes of those before it nor the place in the open one.
use Rattle.std.proofs.Common.{◌≡◌, ℕ, ◌<◌, ◌≤◌, ◌∙◌, List, [], ◌∷◌, ◌++◌, map, length, get_or, drop, refl, ap, arith, subst, sym, Option, Some, None, option_map, string_bytes}
use Rattle.std.proofs.lemmas.List.{get_or_append_left, length-append, length-map, map-append}
use Rattle.std.specs.Option.{ForSome}
use Rattle.rcce_io.specs.declared.memory_files.MemFile.{MemFile}
use Rattle.rcce_io.specs.declared.memory_files.Place.{Place}
use Rattle.rcce_io.specs.declared.memory_files.MemFiles.TheInside.{Inside}
use Rattle.rcce_io.specs.Memory.{FilesState, with_file}
use Rattle.rcce_io.specs.MemoryFiles.{IsPlaceWithin, contents_at, files_state_of, named_file}

module _ (files more : List MemFile) (file : MemFile) (grown : more ≡ files ++ file ∷ []) where
  contents_kept : (k : ℕ) → k < length files → contents_at more k ≡ contents_at files k
  contents_kept k low =
      let bytes = λ (f : MemFile). f.contents.items in
      ap (λ (l : List MemFile). contents_at l k) grown
      ∙ ap (λ (l : List (List ℕ)). get_or l k []) (map-append bytes files (file ∷ []))
      ∙ get_or_append_left (map bytes files) (map bytes (file ∷ [])) [] k (omega (arith, length-map files bytes, low))

  place_kept : (place : Place) → IsPlaceWithin files place → IsPlaceWithin more place
  place_kept place within = record {
    file = omega (arith, ap length grown, length-append files (file ∷ []), within.file);
    at = subst (λ (l : List ℕ). place.at ≤ length l) (sym (contents_kept place.file within.file)) within.at;
  }

  pub places_kept : (held : Option Place) → ForSome held (IsPlaceWithin files) → ForSome held (IsPlaceWithin more)
  places_kept held within place is = place_kept place (within place is)

  rest_kept : (held : Option Place) → ForSome held (IsPlaceWithin files) →
      option_map (λ place. drop place.at (contents_at more place.file)) held ≡ option_map (λ place. drop place.at (contents_at files place.file)) held
  rest_kept None within = refl
  rest_kept (Some place) within = ap (λ (l : List ℕ). Some (drop place.at l)) (contents_kept place.file (within place refl).file)

-- what the callers see is the state with the file
pub view_added : (before after : Inside) (file : MemFile) (state : FilesState) (name contents : List ℕ) → ForSome before.place (IsPlaceWithin before.files.items) →
    after.files.items ≡ before.files.items ++ file ∷ [] → after.place ≡ before.place → after.most ≡ before.most → after.calls ≡ before.calls →
    string_bytes file.name ≡ name → file.contents.items ≡ contents → files_state_of before ≡ state → files_state_of after ≡ with_file name contents state
view_added before after file state name contents within grown place_is most_is calls_is named told is =
    let listed : map named_file after.files.items ≡ map named_file before.files.items ++ record { name = name; contents = contents } ∷ [] =
    ap (map named_file) grown ∙ map-append named_file before.files.items (file ∷ [])
    ∙ ap (λ (n : List ℕ). map named_file before.files.items ++ record { name = n; contents = file.contents.items } ∷ []) named
    ∙ ap (λ (l : List ℕ). map named_file before.files.items ++ record { name = name; contents = l } ∷ []) told in
    let left = ap (option_map (λ place. drop place.at (contents_at after.files.items place.file))) place_is
    ∙ rest_kept before.files.items after.files.items file grown before.place within in
    cc (listed, left, most_is, calls_is)
