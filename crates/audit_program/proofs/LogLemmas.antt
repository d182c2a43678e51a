-- The log that a run holds is that of its script.
use Rattle.std.proofs.Common.{◌≡◌, ◌≢◌, ◌⊎◌, inl, inr, ℕ, ◌+◌, ◌<◌, ◌≤◌, List, [], ◌∷◌, ◌++◌, length, map, replicate, set, slice_index_or, take, drop, refl, sym, ap, ◌∙◌, arith}
use Rattle.std.specs.Prelude.{All, flat_map}
use Rattle.std.specs.List.{range_with_len}
use Rattle.std.proofs.Math.Seq.{drop-append_seam, take-append_seam}
use Rattle.std.proofs.Math.Nat.{eq-or-lt_of_le}
use Rattle.std.proofs.lemmas.Bool.{cases_lt}
use Rattle.std.proofs.lemmas.List.{ext_get_or, get_or-replicate, get_or-set_other, get_or-set_same, length-map, length-replicate, length-set}
use Rattle.std.proofs.lemmas.Option.{slice_get_past}
use Rattle.std.proofs.lemmas.List.Elements.{All-head, All-tail}
use Rattle.std.proofs.lemmas.List.FromFn.{get_or-map-range_with_len, length-map-range_with_len}
use Rattle.scc_base.specs.Calls.{DataCall, Send, Recv, Post, Bar, HasItsBytes, call_of}
use Rattle.rank_monitor.specs.Following.{moved_by}
use Rattle.script_rules.specs.Script.{Script}
use Rattle.plain_meaning.specs.Meaning.{State, plain_end}
use Rattle.plain_meaning.proofs.Runs.PlainLaws.{length-plain_end}
use Rattle.rcce_audit.specs.declared.held.CallList.{CallList}
use Rattle.rcce_audit.specs.Held.{bytes_in, call_with_bytes, held_calls, calls_with_bytes}
use Rattle.rcce_audit.proofs.ListLemmas.{get_or-map_within}
use Rattle.log_run.specs.LogRuns.{done_at, plain_calls}

-- ---- calls with their bytes

pub one_long : (call : DataCall) → HasItsBytes call → bytes_in (call_of call) ≡ length (moved_by call)
one_long (Send to head bytes) long = sym long
one_long (Recv from head bytes) long = sym long
one_long (Post to head bytes) long = sym long
one_long (Bar comm) long = refl

one_back : (call : DataCall) → call_with_bytes (call_of call) (moved_by call) ≡ call
one_back (Send to head bytes) = refl
one_back (Recv from head bytes) = refl
one_back (Post to head bytes) = refl
one_back (Bar comm) = refl

pub bytes_back : (calls : List DataCall) → All HasItsBytes calls → calls_with_bytes (map call_of calls) (flat_map moved_by calls) ≡ calls
bytes_back [] long = refl
bytes_back (call ∷ calls) long =
    let n : bytes_in (call_of call) ≡ length (moved_by call) = one_long call (All-head HasItsBytes call calls long) in
    let front : take (bytes_in (call_of call)) (moved_by call ++ flat_map moved_by calls) ≡ moved_by call =
    ap (λ (k : ℕ). take k (moved_by call ++ flat_map moved_by calls)) n ∙ take-append_seam (moved_by call) (flat_map moved_by calls) in
    let afterwards : drop (bytes_in (call_of call)) (moved_by call ++ flat_map moved_by calls) ≡ flat_map moved_by calls =
    ap (λ (k : ℕ). drop k (moved_by call ++ flat_map moved_by calls)) n ∙ drop-append_seam (moved_by call) (flat_map moved_by calls) in
    λ i. (ap (call_with_bytes (call_of call)) front ∙ one_back call) i ∷ (ap (calls_with_bytes (map call_of calls)) afterwards ∙ bytes_back calls (All-tail HasItsBytes call calls long)) i

-- ---- the lists of the ranks

-- of a script's run the first n ranks have their calls, and the others have none
pub record HoldBelow (script : Script) (n : ℕ) (lists : List CallList) : Type 0 where
  pub count : length lists ≡ 48
  pub done : (k : ℕ) (d : CallList) → k < n → held_calls (slice_index_or lists k d) ≡ plain_calls script k
  pub none : (k : ℕ) (d : CallList) → n ≤ k → k < 48 → held_calls (slice_index_or lists k d) ≡ []

pub hold_first : (script : Script) (empty : CallList) → held_calls empty ≡ [] → HoldBelow script 0 (replicate 48 empty)
hold_first script empty none = record {
  count = length-replicate 48 empty;
  done = λ k d low. absurd (omega (arith, low));
  none = λ k d past low. ap held_calls (get_or-replicate 48 k empty d low) ∙ none;
}

pub hold_more : (script : Script) (n : ℕ) (lists : List CallList) (list : CallList) → n < 48 → HoldBelow script n lists → held_calls list ≡ plain_calls script n → HoldBelow script (n + 1) (set lists n list)
hold_more script n lists list low held is = record {
  count = length-set lists n list ∙ held.count;
  done = λ k d below. by k d (eq-or-lt_of_le (omega (arith, below)));
  none = λ k d past within.
      let apart : k ≢ n = λ same. absurd (omega (arith, past, same)) in
      ap held_calls (get_or-set_other lists n k list d apart) ∙ held.none k d (omega (arith, past)) within;
}
  where
    by : (k : ℕ) (d : CallList) → (k ≡ n) ⊎ (k < n) → held_calls (slice_index_or (set lists n list) k d) ≡ plain_calls script k
    by k d (inl same) =
        ap (λ (j : ℕ). held_calls (slice_index_or (set lists n list) j d)) same
        ∙ ap held_calls (get_or-set_same lists n list d (let count = held.count in omega (arith, low, count)))
        ∙ is ∙ ap (plain_calls script) (sym same)
    by k d (inr earlier) =
        let apart : k ≢ n = λ same. absurd (omega (arith, earlier, same)) in
        ap held_calls (get_or-set_other lists n k list d apart) ∙ held.done k d earlier

pub past_none : (script : Script) (k : ℕ) → script.nue ≤ k → plain_calls script k ≡ []
past_none script k past =
    ap done_at (slice_get_past (plain_end script).cells k
    (let cells = length-plain_end script in let same = length-map (plain_end script).cells (λ (u : State). u.local) in omega (arith, past, cells, same)))

pub held_lists : (script : Script) (lists : List CallList) → script.nue ≤ 48 → HoldBelow script script.nue lists → map held_calls lists ≡ map (plain_calls script) (range_with_len 0 48)
held_lists script lists most held =
    let count = held.count in
    let long = length-map lists held_calls in
    ext_get_or [] (map held_calls lists) (map (plain_calls script) (range_with_len 0 48)) (long ∙ count ∙ sym (length-map-range_with_len (plain_calls script) 0 48))
    (λ i below.
    let low : i < 48 = omega (arith, below, long, count) in
    let d : CallList = some_list lists (omega (arith, count)) in
    let within : i < length lists = omega (arith, low, count) in
    get_or-map_within held_calls lists i d [] within
    ∙ by i d low (cases_lt i script.nue)
    ∙ sym (get_or-map-range_with_len (plain_calls script) 0 48 i i [] low (omega arith)))
  where
    by : (i : ℕ) (d : CallList) → i < 48 → (i < script.nue) ⊎ (script.nue ≤ i) → held_calls (slice_index_or lists i d) ≡ plain_calls script i
    by i d low (inl less) = held.done i d less
    by i d low (inr past) = held.none i d past low ∙ sym (past_none script i past)

    some_list : (xs : List CallList) → 0 < length xs → CallList
    some_list [] some = absurd (omega (arith, some))
    some_list (x ∷ xs) some = x
