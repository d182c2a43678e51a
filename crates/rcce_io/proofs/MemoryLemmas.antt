-- The place of a name among the files in memory.
use Rattle.std.proofs.Common.{◌≡◌, ℕ, ◌+◌, ◌-◌, ◌<◌, ◌≤◌, Bool, true, false, List, [], ◌∷◌, ◌++◌, ◌∙◌, map, length, get_or, take, drop, refl, ap, sym, add-one, arith, cond, min, subst, Option, Some, None, option_map, string_bytes}
use Rattle.std.proofs.Math.Seq.{take-append_seam}
use Rattle.std.proofs.lemmas.List.{drop-drop, length-drop, length-take, take-append-drop, take_rest, get_or-map}
use Rattle.std.specs.Option.{ForSome}
use Rattle.std.specs.List.{position, position_from}
use Rattle.std.specs.Str.{bytes_eq}
use Rattle.std.proofs.lemmas.Iterator.Adapters.{position_from-zero}
use Rattle.rcce_io.specs.declared.memory_files.MemFile.{MemFile}
use Rattle.rcce_io.specs.declared.memory_files.Place.{Place}
use Rattle.rcce_io.specs.Files.{contents_of}
use Rattle.rcce_io.specs.MemoryFiles.{IsPlaceWithin, named_file, contents_at}

position_from-next : (test : MemFile → Bool) (i : ℕ) (files : List MemFile) →
    position_from test (i + 1) files ≡ option_map (λ k. k + 1) (position_from test i files)
position_from-next test i [] = refl
position_from-next test i (file ∷ files) =
    elim (test file) as (λ b. cond b (Some (i + 1)) (position_from test (i + 1 + 1) files)
    ≡ option_map (λ k. k + 1) (cond b (Some i) (position_from test (i + 1) files)))
    [ true ↦ refl | false ↦ position_from-next test (i + 1) files ]

contents_at-next : (file : MemFile) (files : List MemFile) (place : Option ℕ) →
    option_map (contents_at (file ∷ files)) (option_map (λ k. k + 1) place) ≡ option_map (contents_at files) place
contents_at-next file files None = refl
contents_at-next file files (Some k) = rw add-one refl

contents_of-position_from : (name : List ℕ) (files : List MemFile) →
    option_map (contents_at files) (position_from (λ file. bytes_eq (string_bytes file.name) name) 0 files) ≡ contents_of name (map named_file files)
contents_of-position_from name [] = refl
contents_of-position_from name (file ∷ files) =
    elim (bytes_eq (string_bytes file.name) name) as (λ b.
    option_map (contents_at (file ∷ files)) (cond b (Some 0) (position_from (λ f. bytes_eq (string_bytes f.name) name) (0 + 1) files))
    ≡ cond b (Some file.contents.items) (contents_of name (map named_file files))) [
      | true ↦ refl
      | false ↦ ap (option_map (contents_at (file ∷ files))) (position_from-next (λ f. bytes_eq (string_bytes f.name) name) 0 files)
          ∙ contents_at-next file files (position_from (λ f. bytes_eq (string_bytes f.name) name) 0 files)
          ∙ contents_of-position_from name files
    ]

-- the file at the first place of a name has the contents of that name
pub contents_of-position : (name : List ℕ) (files : List MemFile) →
    option_map (contents_at files) (position (λ file. bytes_eq (string_bytes file.name) name) files) ≡ contents_of name (map named_file files)
contents_of-position name files =
    ap (option_map (contents_at files)) (position_from-zero (λ file. bytes_eq (string_bytes file.name) name) files)
    ∙ contents_of-position_from name files

-- a file at its place has the contents there
pub contents_at-file : (files : List MemFile) (k : ℕ) (file : MemFile) → k < length files → file ≡ get_or files k file →
    contents_at files k ≡ file.contents.items
contents_at-file files k file within is =
    get_or-map (λ f. f.contents.items) files k file [] within ∙ sym (ap (λ f. f.contents.items) is)

-- a read moves the next bytes of the rest to the front of the buffer
pub rest-moved : (whole front back : List ℕ) (at len : ℕ) →
    front ≡ take len (take (length whole - at) (drop at whole)) → len ≡ length front →
    drop at whole ≡ take len (front ++ back) ++ drop (at + len) whole
rest-moved whole front back at len is size =
    let next : front ≡ take len (drop at whole) = rw take_rest at is in
    let first : take len (front ++ back) ≡ front = ap (λ n. take n (front ++ back)) size ∙ take-append_seam front back in
    sym (ap (λ f. f ++ drop (at + len) whole) (first ∙ next)
    ∙ ap (λ d. take len (drop at whole) ++ d) (sym (drop-drop len at whole))
    ∙ take-append-drop len (drop at whole))

-- the place in the open file is not past its end, and stays so behind a read of no more bytes than are left
module _ (files : List MemFile) (held : Option Place) (place : Place) (file : MemFile) (bytes : List ℕ) (within : ForSome held (IsPlaceWithin files))
    (is : held ≡ Some place) (found : file ≡ get_or files place.file file) (told : bytes ≡ file.contents.items) where
  bytes_are : contents_at files place.file ≡ bytes
  bytes_are = contents_at-file files place.file file (within place is).file found ∙ sym told

  pub place_known : place.at ≤ length bytes
  place_known = subst (λ (l : List ℕ). place.at ≤ length l) bytes_are (within place is).at

  pub place_moved : (len room : ℕ) → len ≡ min (length (take (length bytes - place.at) (drop place.at bytes))) room →
      ForSome (Some (let next : Place = record { file = place.file; at = place.at + len } in next)) (IsPlaceWithin files)
  place_moved len room count next same =
      let past : place.at + len ≤ length bytes =
      omega (arith, place_known, count, length-take (length bytes - place.at) (drop place.at bytes), length-drop place.at bytes) in
      let moved : IsPlaceWithin files (record { file = place.file; at = place.at + len }) =
      record { file = (within place is).file; at = subst (λ (l : List ℕ). place.at + len ≤ length l) (sym bytes_are) past } in
      subst (λ (p : Place). IsPlaceWithin files p) (cc same) moved

-- the front of a slice, as long as the least of three numbers
pub least_first : (n a b : ℕ) → n ≡ min a b → n ≤ a
least_first n a b is = omega (arith, is)

pub least_of_room : (n a room len most : ℕ) → n ≡ min a room → room ≡ min len most → n ≤ len
least_of_room n a room len most is room_is = omega (arith, is, room_is)
