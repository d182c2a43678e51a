-- A read of the files in memory, at the end of the open one and before it.
use Rattle.std.proofs.Common.{◌≡◌, ℕ, ◌+◌, ◌-◌, ◌<◌, ◌∙◌, false, List, [], length, drop, min, take, refl, ap, arith, subst, sym, Option, Some, IfSome, option_map}
use Rattle.std.proofs.lemmas.List.{drop-drop, drop_all, drop_min, nil_from_length, take_rest}
use Rattle.std.proofs.lemmas.Bool.{ne_eqb}
use Rattle.rcce_io.specs.declared.memory_files.Place.{Place}
use Rattle.rcce_io.specs.declared.memory_files.MemFiles.TheInside.{Inside}
use Rattle.rcce_io.specs.declared.files.Got.TheVariants as got
use Rattle.rcce_io.specs.Memory.{Calls, FilesState, after_call, after_read, fails_next, files_seen, read_answer, read_room}
use Rattle.rcce_io.specs.MemoryFiles.{contents_at, files_state_of}

-- the same files behind another call
abbrev with_calls : Inside → Calls → Inside
with_calls inside calls = record inside { calls = calls }

-- and behind one that moved some bytes
abbrev moved_on : Inside → Place → ℕ → Calls → Inside
moved_on inside place len calls = record inside { place = Some (record { file = place.file; at = place.at + len }); calls = calls }

-- what such a read does, what it answers and what it leaves
module _ (inside : Inside) (calls : Calls) (state : FilesState) (place : Place) (bytes : List ℕ) (size room len : ℕ) (seen : files_state_of inside ≡ state)
    (held : inside.place ≡ Some place) (told : contents_at inside.files.items place.file ≡ bytes) (steady : false ≡ fails_next inside.calls)
    (counted : calls ≡ after_call false inside.calls) (room_is : room ≡ min size inside.most) (some : 0 < size) (pieces : 0 < inside.most)
    (len_is : len ≡ min (length (take (length bytes - place.at) (drop place.at bytes))) room) (none : len ≡ 0) where
  left_is : (files_state_of inside).rest ≡ Some []
  left_is =
      let empty = nil_from_length (take (length bytes - place.at) (drop place.at bytes)) (omega (arith, room_is, some, pieces, len_is, none)) in
      ap (option_map (λ p. drop p.at (contents_at inside.files.items p.file))) held ∙ ap (λ (l : List ℕ). Some (drop place.at l)) told ∙ ap Some (rw take_rest at empty)

  end_reads : files_seen (files_state_of (with_calls inside calls)) ≡ files_seen state × IfSome state.rest (λ more. more ≡ [])
  end_reads = (
    ap (λ (k : Calls). files_seen (files_state_of (with_calls inside k))) counted ∙ ap files_seen seen,
    subst (λ (o : Option (List ℕ)). IfSome o (λ more. more ≡ [])) (sym left_is ∙ ap (λ (s : FilesState). s.rest) seen) refl,
  )

  end_answers : got.End ≡ read_answer state size
  end_answers =
      let here : got.End ≡ read_answer (files_state_of inside) size = rw (sym steady, left_is) refl in
      subst (λ (s : FilesState). got.End ≡ read_answer s size) seen here

  end_state : files_state_of (with_calls inside calls) ≡ after_read state size
  end_state =
      let still : (files_state_of inside).rest ≡ option_map (drop (read_room (files_state_of inside) size)) (files_state_of inside).rest =
      left_is ∙ ap Some (sym (drop_all (read_room (files_state_of inside) size) [] (omega arith))) ∙ ap (option_map (drop (read_room (files_state_of inside) size))) (sym left_is) in
      let here : files_state_of (with_calls inside calls) ≡ after_read (files_state_of inside) size =
      rw (sym steady) (
      ap (λ (k : Calls). files_state_of (with_calls inside k)) counted
      ∙ ap (λ (o : Option (List ℕ)). let s : FilesState = record (files_state_of inside) { rest = o; calls = after_call false inside.calls } in s) still) in
      here ∙ ap (λ (s : FilesState). after_read s size) seen

  pub at_end : (files_seen (files_state_of (with_calls inside calls)) ≡ files_seen state × IfSome state.rest (λ more. more ≡ []))
      × (got.End ≡ read_answer state size) × (files_state_of (with_calls inside calls) ≡ after_read state size)
  at_end = (end_reads, end_answers, end_state)

-- what a read of some bytes answers and leaves
module _ (inside : Inside) (calls : Calls) (state : FilesState) (place : Place) (bytes : List ℕ) (size room len : ℕ) (seen : files_state_of inside ≡ state)
    (held : inside.place ≡ Some place) (told : contents_at inside.files.items place.file ≡ bytes) (steady : false ≡ fails_next inside.calls)
    (counted : calls ≡ after_call false inside.calls) (room_is : room ≡ min size inside.most)
    (len_is : len ≡ min (length (take (length bytes - place.at) (drop place.at bytes))) room) (some : len ≡ 0 → ⊥) where
  rest_is : (files_state_of inside).rest ≡ Some (drop place.at bytes)
  rest_is = ap (option_map (λ p. drop p.at (contents_at inside.files.items p.file))) held ∙ ap (λ (l : List ℕ). Some (drop place.at l)) told

  count_is : len ≡ min (min size inside.most) (length (drop place.at bytes))
  count_is = let least = rw take_rest at len_is in omega (arith, least, room_is)

  some_answer : got.Bytes len ≡ read_answer state size
  some_answer =
      let left : length (drop place.at bytes) ≡ 0 → ⊥ = λ none. some (omega (arith, count_is, none)) in
      let here : got.Bytes len ≡ read_answer (files_state_of inside) size =
      rw (sym steady, rest_is, ne_eqb (length (drop place.at bytes)) 0 left) (ap (λ (n : ℕ). got.Bytes n) count_is) in
      subst (λ (s : FilesState). got.Bytes len ≡ read_answer s size) seen here

  left_after : (files_state_of (moved_on inside place len calls)).rest ≡ option_map (drop (min size inside.most)) (files_state_of inside).rest
  left_after =
      ap (λ (l : List ℕ). Some (drop (place.at + len) l)) told
      ∙ ap Some (sym (drop-drop len place.at bytes) ∙ ap (λ (n : ℕ). drop n (drop place.at bytes)) count_is ∙ drop_min (min size inside.most) (drop place.at bytes))
      ∙ ap (option_map (drop (min size inside.most))) (sym rest_is)

  some_state : files_state_of (moved_on inside place len calls) ≡ after_read state size
  some_state =
      let here : files_state_of (moved_on inside place len calls) ≡ after_read (files_state_of inside) size = rw (sym steady) (cc (left_after, counted)) in
      here ∙ ap (λ (s : FilesState). after_read s size) seen

  pub at_some : (got.Bytes len ≡ read_answer state size) × (files_state_of (moved_on inside place len calls) ≡ after_read state size)
  at_some = (some_answer, some_state)
