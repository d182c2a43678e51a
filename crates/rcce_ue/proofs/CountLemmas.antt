-- Messages sent and their bytes, one call more at a time.
use Rattle.std.proofs.Common.{◌≡◌, ℕ, ◌+◌, ◌-◌, ◌^◌, Bool, true, false, cond, min, List, [], ◌∷◌, ◌++◌, sym, ap, ◌∙◌, arith, sum_by}
use Rattle.std.specs.List.{count_by}
use Rattle.std.proofs.lemmas.List.Sums.{sum_by-append}
use Rattle.scc_base.specs.Calls.{DataCall}
use Rattle.rcce_ue.specs.Standing.{bytes_sent}
use Rattle.rcce_ue.specs.Ues.{capped_count, is_send_call}

-- one more in a count that stops
capped : (most n m more : ℕ) → n ≡ min m most → min (n + more) most ≡ min (m + more) most
capped most n m more is = omega (arith, is)

count_more : (p : DataCall → Bool) (calls : List DataCall) (call : DataCall) → count_by p (calls ++ call ∷ []) ≡ count_by p calls + cond (p call) 1 0
count_more p calls call = let added = sum_by-append (λ (x : DataCall). cond (p x) 1 0) calls (call ∷ []) in omega (arith, added)

-- the counts of calls with one more that sends
pub sends_more : (calls after : List DataCall) (call : DataCall) (n : ℕ) → after ≡ calls ++ call ∷ [] → is_send_call call ≡ true → n ≡ capped_count (count_by is_send_call calls) → capped_count (n + 1) ≡ capped_count (count_by is_send_call after)
sends_more calls after call n is sends count =
    let more : count_by is_send_call after ≡ count_by is_send_call calls + 1 = ap (count_by is_send_call) is ∙ count_more is_send_call calls call ∙ ap (λ (b : Bool). count_by is_send_call calls + cond b 1 0) sends in
    capped (2 ^ 64 - 1) n (count_by is_send_call calls) 1 count ∙ ap capped_count (sym more)

pub bytes_more : (calls after : List DataCall) (call : DataCall) (n len : ℕ) → after ≡ calls ++ call ∷ [] → bytes_sent call ≡ len → n ≡ capped_count (sum_by bytes_sent calls) → capped_count (n + len) ≡ capped_count (sum_by bytes_sent after)
bytes_more calls after call n len is sends count =
    let added = sum_by-append bytes_sent calls (call ∷ []) in
    let more : sum_by bytes_sent after ≡ sum_by bytes_sent calls + len = ap (sum_by bytes_sent) is ∙ omega (arith, added, sends) in
    capped (2 ^ 64 - 1) n (sum_by bytes_sent calls) len count ∙ ap capped_count (sym more)

-- and with one more that sends nothing
pub sends_same : (calls after : List DataCall) (call : DataCall) (n : ℕ) → after ≡ calls ++ call ∷ [] → is_send_call call ≡ false → n ≡ capped_count (count_by is_send_call calls) → n ≡ capped_count (count_by is_send_call after)
sends_same calls after call n is sends count =
    let more : count_by is_send_call after ≡ count_by is_send_call calls = ap (count_by is_send_call) is ∙ count_more is_send_call calls call ∙ ap (λ (b : Bool). count_by is_send_call calls + cond b 1 0) sends ∙ omega arith in
    count ∙ ap capped_count (sym more)

pub bytes_same : (calls after : List DataCall) (call : DataCall) (n : ℕ) → after ≡ calls ++ call ∷ [] → bytes_sent call ≡ 0 → n ≡ capped_count (sum_by bytes_sent calls) → n ≡ capped_count (sum_by bytes_sent after)
bytes_same calls after call n is sends count =
    let added = sum_by-append bytes_sent calls (call ∷ []) in
    let more : sum_by bytes_sent after ≡ sum_by bytes_sent calls = ap (sum_by bytes_sent) is ∙ omega (arith, added, sends) in
    count ∙ ap capped_count (sym more)
