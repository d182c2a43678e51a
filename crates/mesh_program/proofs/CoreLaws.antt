-- Lists of cores, part by part.
use Rattle.std.proofs.Common.{◌≡◌, ◌≢◌, ℕ, zero, suc, ◌+◌, ◌-◌, ◌==◌, ◌<◌, ◌≤◌, not, ◌&&◌, ◌||◌, nat_lt, Bool, true, false, cond, List, [], ◌∷◌, ◌++◌, length, map, take, drop, get_or, set, Option, Some, None, refl, sym, ap, ◌∙◌, arith, add-one, append_assoc, drop-cons, length-append, replicate, ⊎_elim}
use Rattle.std.specs.List.{All, list_all, list_any, position, position_or_len, range_with_len}
use Rattle.std.specs.Prelude.{is_some}
use Rattle.std.specs.Option.{unwrap_or}
use Rattle.std.proofs.lemmas.Bool.{cases_lt, eq-eqb}
use Rattle.std.proofs.lemmas.List.{append-nil, get_or-set_other, get_or-set_same, get_or_past, length-set, length-take, length-replicate, map-append, take-append-drop, take-set, take_more, take_rest, get_or-take}
use Rattle.std.proofs.lemmas.List.FromFn.{fill_by_all}
use Rattle.std.proofs.lemmas.List.Quantifiers.{position-Some}
use Rattle.std.proofs.lemmas.Bool.{ltb-false}
use Rattle.std.proofs.lemmas.Bool.Decides.{nat_tests}
use Rattle.std.proofs.lemmas.List.Folds.{list_any-append}
use Rattle.std.proofs.lemmas.List.Sums.{fails_before_first}
use Rattle.std.proofs.lemmas.List.Splits.{length-slice_split, slice_split_at, slice_split_none}
use Rattle.mesh_load.specs.Mesh.{mesh_core_of}
use Rattle.mesh_program.specs.Cores.{are_different, cores_by_rank, core_number, core_value, cores_in, is_comma, is_core, listed_cores, parts_after, between_commas, rank_numbers}

-- a word with a comma at a place
pub cut_at : (word : List ℕ) (i : ℕ) → position is_comma word ≡ Some i → between_commas word ≡ take i word ∷ between_commas (drop (i + 1) word)
cut_at word i is =
    let first = position-Some is_comma word i 0 is in
    let whole : word ≡ take i word ++ get_or word i 0 ∷ drop (suc i) word = sym (take-append-drop i word) ∙ ap (λ (l : List ℕ). take i word ++ l) (drop-cons word i 0 first.0) in
    let front : All (λ x. is_comma x ≡ false) (take i word) = λ k d below.
    let low : k < i = omega (arith, below, length-take i word) in
    ap is_comma (get_or-take i word k d low) ∙ (position-Some is_comma word i d is).2 k low in
    ap between_commas whole
    ∙ slice_split_at is_comma (take i word) (get_or word i 0) (drop (suc i) word) front first.1
    ∙ ap (λ (n : ℕ). take i word ∷ between_commas (drop n word)) (sym (add-one i))

-- the same, as the code cuts it
pub cut_slices : (word : List ℕ) (i : ℕ) → Some i ≡ position is_comma word → between_commas word ≡ take i word ∷ between_commas (take (length word - (i + 1)) (drop (i + 1) word))
cut_slices word i is = cut_at word i (sym is) ∙ ap (λ (l : List ℕ). take i word ∷ between_commas l) (sym (take_rest word (i + 1)))

none_by : (b : Bool) (n : ℕ) → cond b (Some n) None ≡ None → b ≡ false
none_by true n is = absurd (cc)
none_by false n is = refl

-- and one without
pub cut_none : (word : List ℕ) → position is_comma word ≡ None → between_commas word ≡ word ∷ []
cut_none word is =
    let past : nat_lt (position_or_len is_comma word) (length word) ≡ false = none_by _ (position_or_len is_comma word) is in
    slice_split_none is_comma word (λ k d below. fails_before_first is_comma word k d (omega (arith, below, ltb-false (position_or_len is_comma word) (length word) past)))

-- a list that grew by one
different_push : (cores : List ℕ) (core : ℕ) → are_different (cores ++ core ∷ []) ≡ (are_different cores && not (list_any (λ other. other == core) cores))
different_push [] core = refl
different_push (first ∷ cores) core =
    ap (λ (b : Bool). not b && are_different (cores ++ core ∷ [])) (list_any-append (λ (other : ℕ). other == first) cores (core ∷ []))
    ∙ ap (λ (b : Bool). not (list_any (λ other. other == first) cores || list_any (λ other. other == first) (core ∷ [])) && b) (different_push cores core)
    ∙ joined (list_any (λ other. other == first) cores) (core == first) (are_different cores) (list_any (λ other. other == core) cores)
    ∙ ap (λ (b : Bool). (not (list_any (λ other. other == first) cores) && are_different cores) && not (b || list_any (λ other. other == core) cores)) (either_way core first)
  where
    joined : (a b d e : Bool) → (not (a || (b || false)) && (d && not e)) ≡ ((not a && d) && not (b || e))
    joined true b d e = refl
    joined false true true e = refl
    joined false true false e = refl
    joined false false true e = refl
    joined false false false e = refl

    either_way : (a b : ℕ) → (a == b) ≡ (b == a)
    either_way a b = grind (arith, nat_tests)

different_front : (one two : List ℕ) → are_different one ≡ false → are_different (one ++ two) ≡ false
different_front [] two fails = absurd (cc)
different_front (first ∷ one) two fails = by (λ e. different_front one two e) (list_any (λ other. other == first) one) refl
  where
    none : (b : Bool) → (not b && false) ≡ false
    none true = refl
    none false = refl

    by : (are_different one ≡ false → are_different (one ++ two) ≡ false) → (b : Bool) → list_any (λ other. other == first) one ≡ b → (not (list_any (λ other. other == first) (one ++ two)) && are_different (one ++ two)) ≡ false
    by rest true found =
        ap (λ (b : Bool). not b && are_different (one ++ two)) (list_any-append (λ (other : ℕ). other == first) one two ∙ ap (λ (b : Bool). b || list_any (λ other. other == first) two) found)
    by rest false found =
        ap (λ (b : Bool). not (list_any (λ other. other == first) (one ++ two)) && b)
        (rest (sym (ap (λ (b : Bool). not b && are_different one) found) ∙ fails))
        ∙ none (list_any (λ other. other == first) (one ++ two))

-- parts that are cores, each by its number
numbered : (parts : List (List ℕ)) (cores : List ℕ) → map core_number parts ≡ map Some cores → (list_all is_core parts ≡ true) × (map core_value parts ≡ cores)
numbered [] [] same = (refl, refl)
numbered [] (core ∷ cores) same = absurd (cc)
numbered (part ∷ parts) [] same = absurd (cc)
numbered (part ∷ parts) (core ∷ cores) same =
    let first : core_number part ≡ Some core = cc in
    let rest = numbered parts cores (cc) in (
      ap (λ (o : Option ℕ). is_some o && list_all is_core parts) first ∙ rest.0,
      ap (λ (o : Option ℕ). unwrap_or o 0 ∷ map core_value parts) first ∙ ap (λ (l : List ℕ). core ∷ l) rest.1,
    )

-- what was read of a list: the parts so far, their cores by rank, and what is left
pub record SoFar (word : List ℕ) (i : ℕ) (at : List ℕ) (rest : Option (List ℕ)) : Type 0 where
  pub front : List (List ℕ)
  pub whole : between_commas word ≡ front ++ parts_after rest
  pub count : length front ≡ i
  pub cores : map core_number front ≡ map Some (take i at)
  pub room : length at ≡ 48
  pub zeros : (k : ℕ) → i ≤ k → get_or at k 0 ≡ 0
  pub different : are_different (take i at) ≡ true

pub zeros_of : (n x k : ℕ) → x ≡ 0 → get_or {A = ℕ} (replicate n x) k 0 ≡ 0
zeros_of zero x k is = refl
zeros_of (suc n) x zero is = is
zeros_of (suc n) x (suc k) is = zeros_of n x k is

pub started : (word at : List ℕ) → at ≡ replicate 48 0 → SoFar word 0 at (Some word)
started word at is = record {
  front = [];
  whole = refl;
  count = refl;
  cores = refl;
  room = ap length is ∙ length-replicate {A = ℕ} 48 0;
  zeros = λ k low. ap (λ (l : List ℕ). get_or l k 0) is ∙ zeros_of 48 0 k refl;
  different = refl;
}

-- one core more
taken_next : (at : List ℕ) (i core : ℕ) → i < length at → take (i + 1) (set at i core) ≡ take i at ++ core ∷ []
taken_next at i core within =
    take_more (set at i core) i 0 (omega (arith, within, length-set at i core))
    ∙ ap (λ (l : List ℕ). l ++ get_or (set at i core) i 0 ∷ []) (take-set at i core)
    ∙ ap (λ (n : ℕ). take i at ++ n ∷ []) (get_or-set_same at i core 0 within)

pub stepped : (word : List ℕ) (i : ℕ) (at w first : List ℕ) (more : Option (List ℕ)) (core : ℕ) → SoFar word i at (Some w) → between_commas w ≡ first ∷ parts_after more → core_number first ≡ Some core
    → list_any (λ other. other == core) (take i at) ≡ false → i < 48 → SoFar word (i + 1) (set at i core) more
stepped word i at w first more core so_far cuts is free low =
    let within : i < length at = omega (arith, low, so_far.room) in
    let next : take (i + 1) (set at i core) ≡ take i at ++ core ∷ [] = taken_next at i core within in
    record {
      front = so_far.front ++ first ∷ [];
      whole = so_far.whole ∙ ap (λ (l : List (List ℕ)). so_far.front ++ l) cuts ∙ sym (append_assoc so_far.front (first ∷ []) (parts_after more));
      count = length-append so_far.front (first ∷ []) ∙ omega (arith, so_far.count);
      cores = map-append core_number so_far.front (first ∷ []) ∙ ap (λ (l : List (Option ℕ)). l ++ core_number first ∷ []) so_far.cores
          ∙ ap (λ (o : Option ℕ). map Some (take i at) ++ o ∷ []) is ∙ sym (map-append Some (take i at) (core ∷ [])) ∙ ap (map Some) (sym next);
      room = length-set at i core ∙ so_far.room;
      zeros = λ k above. get_or-set_other at i k core 0 (λ same. omega (arith, above, same)) ∙ so_far.zeros k (omega (arith, above));
      different = ap are_different next ∙ different_push (take i at) core ∙ ap (λ (b : Bool). b && not (list_any (λ other. other == core) (take i at))) so_far.different ∙ ap not free;
    }

numbers : rank_numbers ≡ range_with_len 0 48
unfolding rank_numbers
numbers = refl

refuse_count : (nue : ℕ) (word : List ℕ) → (length (between_commas word) == nue) ≡ false → listed_cores nue word ≡ None
refuse_count nue word fails =
    ap (λ (b : Bool). cond (b && list_all is_core (between_commas word) && are_different (cores_in word)) (Some (cores_by_rank (cores_in word))) None) fails

refuse_twice : (nue : ℕ) (word : List ℕ) → are_different (cores_in word) ≡ false → listed_cores nue word ≡ None
refuse_twice nue word fails =
    ap (λ (b : Bool). cond ((length (between_commas word) == nue) && list_all is_core (between_commas word) && b) (Some (cores_by_rank (cores_in word))) None) fails
    ∙ by (length (between_commas word) == nue) (list_all is_core (between_commas word))
  where
    by : (a b : Bool) → cond (a && b && false) (Some (cores_by_rank (cores_in word))) None ≡ None
    by true true = refl
    by true false = refl
    by false b = refl

not_same : (a b : ℕ) → a ≢ b → (a == b) ≡ false
not_same a b odd = grind (arith, nat_tests)

-- all parts are read
pub finished : (word : List ℕ) (nue : ℕ) (at : List ℕ) → nue ≤ 48 → SoFar word nue at None → listed_cores nue word ≡ Some at
finished word nue at most so_far =
    let parts : between_commas word ≡ so_far.front = so_far.whole ∙ append-nil so_far.front in
    let are = numbered so_far.front (take nue at) so_far.cores in
    let cores : cores_in word ≡ take nue at = ap (map core_value) parts ∙ are.1 in
    let many : (length (between_commas word) == nue) ≡ true = eq-eqb (length (between_commas word)) nue (ap length parts ∙ so_far.count) in
    let each : list_all is_core (between_commas word) ≡ true = ap (list_all is_core) parts ∙ are.0 in
    let odd : are_different (cores_in word) ≡ true = ap are_different cores ∙ so_far.different in
    let by : at ≡ cores_by_rank (take nue at) = fill_by_all (mesh_core_of (take nue at)) at 48 0 so_far.room (λ k low. place k) ∙ ap (map (mesh_core_of (take nue at))) (sym numbers) in
    ap (λ (b : Bool). cond (b && list_all is_core (between_commas word) && are_different (cores_in word)) (Some (cores_by_rank (cores_in word))) None) many
    ∙ ap (λ (b : Bool). cond (b && are_different (cores_in word)) (Some (cores_by_rank (cores_in word))) None) each
    ∙ ap (λ (b : Bool). cond b (Some (cores_by_rank (cores_in word))) None) odd
    ∙ ap (λ (l : List ℕ). Some (cores_by_rank l)) cores ∙ ap Some (sym by)
  where
    place : (k : ℕ) → get_or at k 0 ≡ mesh_core_of (take nue at) k
    place k =
        ⊎_elim
        (λ (low : k < nue). sym (get_or-take nue at k 0 low))
        (λ (past : nue ≤ k). so_far.zeros k past ∙ sym (get_or_past (take nue at) k 0 (omega (arith, past, length-take nue at))))
        (cases_lt k nue)

-- there are parts left
pub too_many : (word : List ℕ) (nue : ℕ) (at w : List ℕ) → SoFar word nue at (Some w) → listed_cores nue word ≡ None
too_many word nue at w so_far =
    refuse_count nue word (not_same (length (between_commas word)) nue (λ same.
    omega (arith, same, ap length so_far.whole, length-append so_far.front (between_commas w), so_far.count, length-slice_split is_comma w)))

-- a core comes twice
pub twice : (word : List ℕ) (nue i : ℕ) (at w first : List ℕ) (more : Option (List ℕ)) (core : ℕ) → SoFar word i at (Some w) → between_commas w ≡ first ∷ parts_after more → core_number first ≡ Some core
    → list_any (λ other. other == core) (take i at) ≡ true → listed_cores nue word ≡ None
twice word nue i at w first more core so_far cuts is found =
    let are = numbered so_far.front (take i at) so_far.cores in
    let cores : cores_in word ≡ (take i at ++ core ∷ []) ++ map core_value (parts_after more) =
    ap (map core_value) (so_far.whole ∙ ap (λ (l : List (List ℕ)). so_far.front ++ l) cuts)
    ∙ map-append core_value so_far.front (first ∷ parts_after more)
    ∙ ap (λ (l : List ℕ). l ++ core_value first ∷ map core_value (parts_after more)) are.1
    ∙ ap (λ (o : Option ℕ). take i at ++ unwrap_or o 0 ∷ map core_value (parts_after more)) is
    ∙ sym (append_assoc (take i at) (core ∷ []) (map core_value (parts_after more))) in
    let alike : are_different (take i at ++ core ∷ []) ≡ false =
    different_push (take i at) core ∙ ap (λ (b : Bool). b && not (list_any (λ other. other == core) (take i at))) so_far.different ∙ ap not found in
    refuse_twice nue word (ap are_different cores ∙ different_front (take i at ++ core ∷ []) (map core_value (parts_after more)) alike)
