-- What the ranks of a run have sent and printed, one rank after another.
use Rattle.std.proofs.Common.{◌≡◌, ℕ, suc, ◌+◌, ◌-◌, ◌*◌, ◌%◌, ◌^◌, ◌<◌, ◌≤◌, cond, List, [], ◌∷◌, get_or, length, min, slice_get, slice_index_or, take, Option, Some, None, refl, sym, ap, ◌∙◌, subst, arith, sum_by}
use Rattle.std.specs.List.{count_by, sum}
use Rattle.std.specs.Option.{option_map}
use Rattle.std.proofs.Math.Nat.{mod-add-mod, mul-suc}
use Rattle.std.proofs.lemmas.List.{length-map, take_all}
use Rattle.std.proofs.lemmas.List.Sums.{sum_by-cons, sum_by_more}
use Rattle.std.proofs.lemmas.Option.{get_or_from_slice_get, same_Some, slice_get_within}
use Rattle.scc_base.specs.Calls.{DataCall}
use Rattle.scc_base.specs.Calls.DataCall.{Send, Recv, Post, Bar}
use Rattle.scc_proto.specs.Stages.{Record}
use Rattle.script_rules.specs.Script.{Script}
use Rattle.script_machine.specs.Local.{most_steps_left, local_start}
use Rattle.script_plain.specs.Matches.{plain_matches}
use Rattle.plain_meaning.specs.Meaning.{State, plain_end, plain_ends}
use Rattle.script_machine.specs.Printed.{Printed}
use Rattle.plain_meaning.proofs.Runs.PlainLaws.{length-plain_end}
use Rattle.script_gen.specs.Outcome.{all_sends, all_sent_bytes, counts_line, message_bytes, printed_sum, script_line, sends_of_call, sent_bytes_of}
use Rattle.script_gen.specs.Scripts.{gen_script_of}
use Rattle.script_gen.proofs.Sums.{bytes_came, sends_came}
use Rattle.script_gen.proofs.Usual.{AreUsual, gen_short, gen_usual}
use Rattle.rcce_ue.specs.Standing.{bytes_sent}
use Rattle.rcce_ue.specs.Ues.{UeView, capped_count, is_send_call}
use Rattle.chip_run.specs.declared.members.Member.{Member}
use Rattle.rcce_run.specs.Sent.{CountsSends}
use Rattle.rcce_run.specs.UeRuns.{HasPlainCalls}
use Rattle.run_program.specs.Runs.{CountsPlain, HaveSent}

-- ---- what a unit of execution has counted is what its rank sent in the plain meaning

one_send : (call : DataCall) → cond (is_send_call call) 1 0 ≡ sends_of_call call
one_send (Send to head bytes) = refl
one_send (Recv from head bytes) = refl
one_send (Post to head bytes) = refl
one_send (Bar comm) = refl

one_length : (call : DataCall) → bytes_sent call ≡ sent_bytes_of call
one_length (Send to head bytes) = refl
one_length (Recv from head bytes) = refl
one_length (Post to head bytes) = refl
one_length (Bar comm) = refl

same_sums : (f g : DataCall → ℕ) → ((call : DataCall) → f call ≡ g call) → (calls : List DataCall) → sum_by f calls ≡ sum_by g calls
same_sums f g same [] = refl
same_sums f g same (call ∷ calls) =
    let rest = same_sums f g same calls in
    let first = same call in
    omega (arith, rest, first, sum_by-cons f call calls, sum_by-cons g call calls)

count_same : (calls : List DataCall) → count_by is_send_call calls ≡ sum_by sends_of_call calls
count_same calls = same_sums (λ (call : DataCall). cond (is_send_call call) 1 0) sends_of_call one_send calls

bytes_same : (calls : List DataCall) → sum_by bytes_sent calls ≡ sum_by sent_bytes_of calls
bytes_same calls = same_sums bytes_sent sent_bytes_of one_length calls

-- a unit of execution at the end of a run
pub counts_plain : (script : Script) (rank : ℕ) (rec : Record) (ue : UeView) → HasPlainCalls script rank rec → CountsSends script rank rec ue → CountsPlain script rank ue
counts_plain script rank rec ue calls counts = by (slice_get (plain_end script).cells rank) refl calls
  where
    by : (o : Option State) → slice_get (plain_end script).cells rank ≡ o → option_map (λ (u : State). u.matched) o ≡ Some rec.calls → CountsPlain script rank ue
    by None there is = absurd (cc)
    by (Some state) there is =
        let same : rec.calls ≡ state.matched = sym (same_Some state.matched rec.calls is) in
        let sends : count_by is_send_call rec.calls ≡ sum_by sends_of_call state.matched = count_same rec.calls ∙ ap (sum_by sends_of_call) same in
        let bytes : sum_by bytes_sent rec.calls ≡ sum_by sent_bytes_of state.matched = bytes_same rec.calls ∙ ap (sum_by sent_bytes_of) same in
        let few = counts.few in
        let short = counts.short in
        record {
          state = state;
          there = there;
          sent = counts.sent ∙ ap capped_count sends;
          bytes = counts.bytes ∙ ap capped_count bytes;
          few = omega (arith, few, sends);
          short = omega (arith, short, sends, bytes);
        }

-- ---- the counts of all ranks

cells_count : (script : Script) → length (plain_end script).cells ≡ script.nue
cells_count script = sym (length-map (plain_end script).cells (λ (u : State). u.local)) ∙ length-plain_end script

-- counts that stop, added up
counted_more : (a b x y now : ℕ) → a ≡ capped_count x → b ≡ capped_count y → now ≡ min (a + b) (2 ^ 64 - 1) → now ≡ capped_count (x + y)
counted_more a b x y now first second is = omega (arith, first, second, is)

module _ (script : Script) (crew : List (Member UeView)) (sent : HaveSent script crew) (n : ℕ) (low : n < script.nue) (member : Member UeView) (is : member ≡ slice_index_or crew n member) where
  here : CountsPlain script n member.worker
  here = subst (λ (m : Member UeView). CountsPlain script n m.worker) (sym is) (sent.each n member low)

  within : n < length (plain_end script).cells
  within = subst (λ (k : ℕ). n < k) (sym (cells_count script)) low

  -- one rank more
  pub sends_more : (so_far now : ℕ) → so_far ≡ capped_count (sum_by (λ (u : State). sum_by sends_of_call u.matched) (take n (plain_end script).cells)) → now ≡ min (so_far + member.worker.sent) (2 ^ 64 - 1)
      → now ≡ capped_count (sum_by (λ (u : State). sum_by sends_of_call u.matched) (take (n + 1) (plain_end script).cells))
  sends_more so_far now first is_now =
      let cells = (plain_end script).cells in
      let there : get_or cells n here.state ≡ here.state = get_or_from_slice_get cells n here.state here.state here.there in
      let more : sum_by (λ (u : State). sum_by sends_of_call u.matched) (take (n + 1) cells) ≡ sum_by (λ (u : State). sum_by sends_of_call u.matched) (take n cells) + sum_by sends_of_call here.state.matched =
      sum_by_more (λ (u : State). sum_by sends_of_call u.matched) cells n here.state within ∙ ap (λ (u : State). sum_by (λ (v : State). sum_by sends_of_call v.matched) (take n cells) + sum_by sends_of_call u.matched) there in
      counted_more so_far member.worker.sent _ _ now first here.sent is_now ∙ ap capped_count (sym more)

  pub bytes_more : (so_far now : ℕ) → so_far ≡ capped_count (sum_by (λ (u : State). sum_by sent_bytes_of u.matched) (take n (plain_end script).cells)) → now ≡ min (so_far + member.worker.sent_bytes) (2 ^ 64 - 1)
      → now ≡ capped_count (sum_by (λ (u : State). sum_by sent_bytes_of u.matched) (take (n + 1) (plain_end script).cells))
  bytes_more so_far now first is_now =
      let cells = (plain_end script).cells in
      let there : get_or cells n here.state ≡ here.state = get_or_from_slice_get cells n here.state here.state here.there in
      let more : sum_by (λ (u : State). sum_by sent_bytes_of u.matched) (take (n + 1) cells) ≡ sum_by (λ (u : State). sum_by sent_bytes_of u.matched) (take n cells) + sum_by sent_bytes_of here.state.matched =
      sum_by_more (λ (u : State). sum_by sent_bytes_of u.matched) cells n here.state within ∙ ap (λ (u : State). sum_by (λ (v : State). sum_by sent_bytes_of v.matched) (take n cells) + sum_by sent_bytes_of u.matched) there in
      counted_more so_far member.worker.sent_bytes _ _ now first here.bytes is_now ∙ ap capped_count (sym more)

-- all ranks
pub all_cells : (script : Script) (f : State → ℕ) (n : ℕ) → script.nue ≤ n → sum_by f (take n (plain_end script).cells) ≡ sum_by f (plain_end script).cells
all_cells script f n past = ap (sum_by f) (take_all n (plain_end script).cells (subst (λ (k : ℕ). k ≤ n) (sym (cells_count script)) past))

-- a sum over ranks of which each has at most so much
sum_within : (f : State → ℕ) (most : ℕ) (us : List State) → ((k : ℕ) (u : State) → slice_get us k ≡ Some u → f u ≤ most) → sum_by f us ≤ most * length us
sum_within f most [] each = omega arith
sum_within f most (u ∷ us) each =
    let first = each 0 u refl in
    let rest = sum_within f most us (λ k v there. each (suc k) v there) in
    let bound : most * suc (length us) ≡ most * length us + most = mul-suc most (length us) in
    omega (arith, first, rest, bound, sum_by-cons f u us)

-- each rank of a crew that has counted has sent little, where ranks take few steps
module _ (script : Script) (crew : List (Member UeView)) (sent : HaveSent script crew) (d : Member UeView) (most : script.nue ≤ 48) (few : (rank : ℕ) → most_steps_left (local_start script rank) ≤ 110001) where
  at_cell : (k : ℕ) (u : State) → slice_get (plain_end script).cells k ≡ Some u → (sum_by sends_of_call u.matched ≤ 110001) × (sum_by sent_bytes_of u.matched ≤ 65536 * 110001)
  at_cell k u there =
      let low : k < script.nue = subst (λ (n : ℕ). k < n) (cells_count script) (slice_get_within (plain_end script).cells k u there) in
      let own = sent.each k d low in
      let same : own.state ≡ u = same_Some own.state u (sym own.there ∙ there) in
      let sends : sum_by sends_of_call own.state.matched ≡ sum_by sends_of_call u.matched = ap (λ (v : State). sum_by sends_of_call v.matched) same in
      let bytes : sum_by sent_bytes_of own.state.matched ≡ sum_by sent_bytes_of u.matched = ap (λ (v : State). sum_by sent_bytes_of v.matched) same in
      let little = own.few in
      let short = own.short in
      let steps = few k in
      (omega (arith, sends, little, steps), omega (arith, sends, bytes, little, short, steps))

  -- so no count has stopped
  pub sends_whole : capped_count (all_sends (plain_end script)) ≡ all_sends (plain_end script)
  sends_whole =
      let cells = (plain_end script).cells in
      let all = sum_within (λ (u : State). sum_by sends_of_call u.matched) 110001 cells (λ k u there. (at_cell k u there).0) in
      let many = cells_count script in
      omega (arith, all, many, most)

  pub bytes_whole : capped_count (all_sent_bytes (plain_end script)) ≡ all_sent_bytes (plain_end script)
  bytes_whole =
      let cells = (plain_end script).cells in
      let all = sum_within (λ (u : State). sum_by sent_bytes_of u.matched) (65536 * 110001) cells (λ k u there. (at_cell k u there).1) in
      let many = cells_count script in
      omega (arith, all, many, most)

-- ---- sums modulo 2 ^ 32

-- a sum that goes on
pub mod_more : (a b c t now : ℕ) → t ≡ (a + b) % 2 ^ 32 → now ≡ (t + c) % 2 ^ 32 → now ≡ (a + (b + c)) % 2 ^ 32
mod_more a b c t now was is =
    let same : a + b + c ≡ a + (b + c) = omega arith in
    is ∙ ap (λ (x : ℕ). (x + c) % 2 ^ 32) was ∙ mod-add-mod (a + b) (2 ^ 32) c ∙ ap (λ (x : ℕ). x % 2 ^ 32) same

-- what one item more adds
pub items_more : (items : List Printed) (i : ℕ) (item : Printed) (bytes : List ℕ) (first t now : ℕ) → slice_get items i ≡ Some item → bytes ≡ item.bytes
    → t ≡ (first + sum_by (λ (x : Printed). sum x.bytes) (take i items)) % 2 ^ 32 → now ≡ (t + sum bytes) % 2 ^ 32
    → now ≡ (first + sum_by (λ (x : Printed). sum x.bytes) (take (i + 1) items)) % 2 ^ 32
items_more items i item bytes first t now there same was is =
    let within : i < length items = slice_get_within items i item there in
    let here : get_or items i item ≡ item = get_or_from_slice_get items i item item there in
    let more : sum_by (λ (x : Printed). sum x.bytes) (take (i + 1) items) ≡ sum_by (λ (x : Printed). sum x.bytes) (take i items) + sum bytes =
    sum_by_more (λ (x : Printed). sum x.bytes) items i item within
    ∙ ap (λ (x : Printed). sum_by (λ (y : Printed). sum y.bytes) (take i items) + sum x.bytes) here
    ∙ ap (λ (l : List ℕ). sum_by (λ (y : Printed). sum y.bytes) (take i items) + sum l) (sym same) in
    mod_more first (sum_by (λ (x : Printed). sum x.bytes) (take i items)) (sum bytes) t now was is ∙ ap (λ (n : ℕ). (first + n) % 2 ^ 32) (sym more)

-- ---- the line

line_by : (nue other seed sends matches bytes lengths total printed : ℕ) → nue ≡ other → sends ≡ matches → bytes ≡ lengths → total ≡ printed
    → counts_line nue seed sends bytes total ≡ counts_line other seed matches lengths printed
line_by nue other seed sends matches bytes lengths total printed n p q r = λ i. counts_line (n i) seed (p i) (q i) (r i)

-- the ranks of a generated script take few steps
few_steps : (nue s rank : ℕ) → nue ≤ 48 → most_steps_left (local_start (gen_script_of nue s) rank) ≤ 110001
few_steps nue s rank few = let short = gen_short nue s rank few in omega (arith, short)

-- the line of what a crew has counted is that of the script's plain meaning
pub made_line : (script : Script) (seed : ℕ) (crew : List (Member UeView)) (sent : HaveSent script crew) (d : Member UeView) → script.nue ≤ 48 → script ≡ gen_script_of script.nue seed
    → (nue sends bytes total : ℕ) → nue ≡ script.nue → sends ≡ capped_count (all_sends (plain_end script)) → bytes ≡ capped_count (all_sent_bytes (plain_end script)) → total ≡ printed_sum (plain_ends script)
    → counts_line nue seed sends bytes total ≡ script_line seed script
made_line script seed crew sent d most made nue sends bytes total ranks sends_is bytes_is total_is =
    let short : (rank : ℕ) → most_steps_left (local_start script rank) ≤ 110001 = λ rank. subst (λ (x : Script). most_steps_left (local_start x rank) ≤ 110001) (sym made) (few_steps script.nue seed rank most) in
    let usual : AreUsual script.items = subst (λ (x : Script). AreUsual x.items) (sym made) (gen_usual script.nue seed) in
    line_by nue script.nue seed sends (length (plain_matches script)) bytes (message_bytes (plain_matches script)) total (printed_sum (plain_ends script)) ranks
    (sends_is ∙ sends_whole script crew sent d most short ∙ sends_came script usual) (bytes_is ∙ bytes_whole script crew sent d most short ∙ bytes_came script usual) total_is
