-- Where nobody posts, what ranks have sent are the messages that came.
use Rattle.std.proofs.Common.{◌≡◌, ◌≢◌, ℕ, zero, suc, ◌+◌, ◌<◌, Bool, true, false, cond, List, [], ◌∷◌, ◌++◌, drop, length, get_or, set, Option, Some, None, refl, sym, ap, ◌∙◌, subst, arith, sum_by, slice_get}
use Rattle.std.specs.Prelude.{is_some}
use Rattle.std.specs.List.{range_with_len}
use Rattle.std.specs.Option.{option_map_or, option_or}
use Rattle.std.proofs.lemmas.List.Sums.{sum_by-append, sum_by-cons, sum_by-set}
use Rattle.std.proofs.lemmas.Option.{get_or_from_slice_get, slice_get_within}
use Rattle.scc_base.specs.Calls.{DataCall}
use Rattle.scc_base.specs.Calls.DataCall.{Send, Recv, Bar}
use Rattle.scc_base.specs.Groups.{is_with}
use Rattle.scc_base.specs.Heads.{MessageHead}
use Rattle.script_rules.specs.Script.{Script}
use Rattle.script_plain.specs.declared.matches.Match.{Match}
use Rattle.script_machine.specs.declared.posts.Posted.{Posted}
use Rattle.script_machine.specs.declared.prims.Standing.{Standing}
use Rattle.script_machine.specs.declared.prims.Standing.TheVariants as standing
use Rattle.plain_meaning.specs.Collectives.{start_of_rank}
use Rattle.script_machine.specs.Local.{Local, local_next, next_by_act, next_by_prim, prim_by_standing, statement_line}
use Rattle.script_plain.specs.Matches.{messages_brought, brought_by, statement_line_at, lowest_brought, match_of, matches_on, plain_matches, step_brought, brought_by_take}
use Rattle.plain_meaning.specs.Meaning.{State, keys_of, next_of, plain_end, next_with_calls, start_of, steps_left}
use Rattle.script_machine.specs.Next.{Next, is_at_barrier, past_barrier}
use Rattle.script_machine.specs.Next.Next.{Ends, Goes, Posts, Sends, Recvs, Bars}
use Rattle.script_machine.specs.Program.{Act, Prim}
use Rattle.plain_meaning.specs.Step.{Configuration, all_at_barrier, by_rank, lowest, lowest_step, next_at, past_if, run_on, slot_at, step_of}
use Rattle.plain_meaning.proofs.OwnWays.CameDid.{logged}
use Rattle.plain_meaning.proofs.Messages.KeptLaws.{AllKept, KeepsNext, kept_runs}
use Rattle.plain_meaning.proofs.Messages.MessageLaws.{Logs, cell_other, empty_slot, logs}
use Rattle.plain_meaning.proofs.OwnWays.OwnWayLaws.{stands, start_cell}
use Rattle.plain_meaning.proofs.Runs.RunLaws.{stands_there}
use Rattle.plain_meaning.proofs.Runs.StepLaws as steps
use Rattle.plain_meaning.proofs.Runs.StepLaws.Takes.{Alone, Left, Met, Fetched, RefusedPost, RefusedSend, Passed}
use Rattle.plain_meaning.proofs.Runs.ViewLaws.{sum_by-map}
use Rattle.script_gen.specs.Outcome.{all_sends, all_sent_bytes, message_bytes, sends_of_call, sent_bytes_of}
use Rattle.script_gen.proofs.Usual.{AreQuiet, AreUsual, IsQuiet, quiet_program}

-- ---- a rank that posts nothing goes on so, and what it sends has the length that its head says

abbrev Quiet : ℕ → State → Type 0
Quiet k u = AreQuiet u.local.left

abbrev Nothing : ℕ → Posted → Type 0
Nothing k message = ⊥

quiet_act : (k : ℕ) (calls : List DataCall) (u : Local) (line : ℕ) (a : Act) → IsQuiet a → AreQuiet (drop 1 u.left) → AreQuiet u.left → KeepsNext (Quiet k) (Nothing k) (next_with_calls calls (next_by_act u line a))
quiet_act k calls u line (Act.Post to reg) quiet rest all = absurd quiet
quiet_act k calls u line (Act.Recv from reg head) quiet rest all = (λ bytes. rest, λ sent. all)
quiet_act k calls u line (Act.Gather from head sized) quiet rest all = (λ bytes. rest, λ sent. all)
quiet_act k calls u line _ quiet rest all = rest

quiet_left : (k : ℕ) (calls : List DataCall) (u : Local) (l : List Prim) → u.left ≡ l → AreQuiet l → KeepsNext (Quiet k) (Nothing k) (next_with_calls calls (next_by_prim u (slice_get l 0)))
quiet_left k calls u [] left quiet = tt
quiet_left k calls u (prim ∷ rest) left quiet =
    quiet_act k calls u prim.line prim.act quiet.0 (subst (λ (l : List Prim). AreQuiet (drop 1 l)) (sym left) quiet.1) (subst (λ (l : List Prim). AreQuiet l) (sym left) quiet)

quiet_standing : (k : ℕ) (calls : List DataCall) (u : Local) (s : Standing) → AreQuiet u.left → KeepsNext (Quiet k) (Nothing k) (next_with_calls calls (next_by_prim u (prim_by_standing s u.left)))
quiet_standing k calls u standing.Running quiet = quiet_left k calls u u.left refl quiet
quiet_standing k calls u (standing.Mismatched line from sent asked) quiet = tt

quiet_next : (k : ℕ) (u : State) → Quiet k u → KeepsNext (Quiet k) (Nothing k) (next_of u)
unfolding local_next
quiet_next k u quiet = quiet_standing k u.matched u.local u.local.standing quiet

abbrev AllQuiet : Configuration State → Type 0
AllQuiet c = AllKept Quiet Nothing quiet_next c

abbrev IsLong : Next State → Type 0
IsLong (Sends to head bytes after) = length bytes ≡ head.len
IsLong _ = Unit {0}

long_act : (calls : List DataCall) (u : Local) (line : ℕ) (a : Act) → IsLong (next_with_calls calls (next_by_act u line a))
long_act calls u line (Act.Send to head source) = refl
long_act calls u line _ = tt

long_prim : (calls : List DataCall) (u : Local) (o : Option Prim) → IsLong (next_with_calls calls (next_by_prim u o))
long_prim calls u None = tt
long_prim calls u (Some prim) = long_act calls u prim.line prim.act

long_next : (u : State) → IsLong (next_of u)
unfolding local_next
long_next u = long_prim u.matched u.local (prim_by_standing u.local.standing u.local.left)

-- ---- what is sent, by a measure that goes by heads

-- a measure of calls: a send by its head, and nothing else but a post
record Measures (m : DataCall → ℕ) (g : MessageHead → ℕ) : Type 0 where
  sends : (to : ℕ) (head : MessageHead) (bytes : List ℕ) → length bytes ≡ head.len → m (Send to head bytes) ≡ g head
  gets : (from : ℕ) (head : MessageHead) (bytes : List ℕ) → m (Recv from head bytes) ≡ 0
  meets : (comm : ℕ) → m (Bar comm) ≡ 0

module _ (m : DataCall → ℕ) (g : MessageHead → ℕ) (is : Measures m g) (line : State → ℕ) where
  -- what a rank has sent, and what all have sent
  abbrev counted : State → ℕ
  counted = λ u. sum_by m u.matched

  abbrev total : Configuration State → ℕ
  total c = sum_by counted c.cells

  -- what messages bring that came
  abbrev brings : List Match → ℕ
  brings matches = sum_by (λ x. g x.head) matches

  with_call : (calls now : List DataCall) (call : DataCall) (n : ℕ) → now ≡ calls ++ call ∷ [] → m call ≡ n → sum_by m now ≡ sum_by m calls + n
  with_call calls now call n same one =
      let more : sum_by m (calls ++ call ∷ []) ≡ sum_by m calls + m call = let added = sum_by-append m calls (call ∷ []) in omega (arith, added, sum_by-cons m call []) in
      ap (sum_by m) same ∙ more ∙ ap (λ (x : ℕ). sum_by m calls + x) one

  -- a rank's state is written
  more_at : (us : List State) (i : ℕ) (v w : State) (n : ℕ) → slice_get us i ≡ Some w → counted v ≡ counted w + n → sum_by counted (set us i v) ≡ sum_by counted us + n
  more_at us i v w n here more =
      let within : i < length us = slice_get_within us i w here in
      let was : counted (get_or us i w) ≡ counted w = ap counted (get_or_from_slice_get us i w w here) in
      let set_is = sum_by-set counted us i v w within in
      omega (arith, set_is, was, more)

  past_counted : (u : State) (comm : ℕ) (n : Next State) → Logs u.matched n → is_at_barrier comm n ≡ true → counted (past_barrier n u) ≡ counted u
  past_counted u comm Ends log at = absurd (cc)
  past_counted u comm (Goes after) log at = absurd (cc)
  past_counted u comm (Posts message after) log at = absurd (cc)
  past_counted u comm (Sends to head bytes after) log at = absurd (cc)
  past_counted u comm (Recvs from head take refuse) log at = absurd (cc)
  past_counted u comm (Bars other after) log at = let same = with_call u.matched after.matched (Bar other) 0 log (is.meets other) in omega (arith, same)

  all_counted : (change : ℕ → State → State) (us : List State) → ((k : ℕ) (u : State) → slice_get us k ≡ Some u → counted (change k u) ≡ counted u) → sum_by counted (by_rank change us) ≡ sum_by counted us
  all_counted change [] each = refl
  all_counted change (u ∷ us) each =
      let rest = all_counted (λ rank. change (suc rank)) us (λ k v there. each (suc k) v there) in
      let first = each 0 u refl in
      omega (arith, rest, first, sum_by-cons counted (change 0 u) (by_rank (λ rank. change (suc rank)) us), sum_by-cons counted u us)

  -- the members of a group go past a barrier
  passed_counted : (c : Configuration State) (comm : ℕ) (test : ℕ → Bool) → all_at_barrier next_of comm test c.cells ≡ true → sum_by counted (by_rank (λ rank. past_if next_of (test rank)) c.cells) ≡ sum_by counted c.cells
  passed_counted c comm test all = all_counted (λ rank. past_if next_of (test rank)) c.cells each
    where
      by_test : (k : ℕ) (u : State) → slice_get c.cells k ≡ Some u → (b : Bool) → test k ≡ b → counted (past_if next_of b u) ≡ counted u
      by_test k u here true member = past_counted u comm (next_of u) (logs u.matched (local_next u.local)) (stands_there next_of comm test c.cells k u all member here)
      by_test k u here false member = refl

      each : (k : ℕ) (u : State) → slice_get c.cells k ≡ Some u → counted (past_if next_of (test k) u) ≡ counted u
      each k u here = by_test k u here (test k) refl

  -- one message
  one_brought : (x : Match) → brings (x ∷ []) ≡ g x.head
  one_brought x = let one = sum_by-cons (λ (y : Match). g y.head) x [] in omega (arith, one)

  abbrev Adds : Configuration State → ℕ → Configuration State → Type 0
  Adds c i d = total d ≡ total c + brings (messages_brought next_of line c i)

  -- what a step brings is what was sent more
  step_adds : (keys : ℕ → ℕ → ℕ) (c d : Configuration State) (i : ℕ) → AllQuiet c → steps.Takes keys next_of c i d → Adds c i d
  step_adds keys c d i quiet (Alone after at made) =
      let here = stands c i (Goes after) at (λ e. cc) in
      let same : counted after ≡ counted here.0 + 0 = ap (sum_by m) (logged here.0 (Goes after) here.2) ∙ omega arith in
      let now = more_at c.cells i after here.0 0 here.1 same in
      let none : brings (messages_brought next_of line c i) ≡ 0 = ap (λ (n : Next State). brings (brought_by line c i n)) at in
      subst (Adds c i) (sym made) (now ∙ ap (λ (n : ℕ). total c + n) (sym none))
  step_adds keys c d i quiet (Left message after at slot made) =
      let here = stands c i (Posts message after) at (λ e. cc) in
      absurd (subst (KeepsNext (Quiet i) (Nothing i)) here.2 (quiet_next i here.0 (quiet.cells i here.0 here.1))).1
  step_adds keys c d i quiet (Met j head bytes after asked take refuse at slot meets same made) =
      let here = stands c i (Sends j head bytes after) at (λ e. cc) in
      let peer = stands c j (Recvs i asked take refuse) meets (λ e. cc) in
      let apart : j ≢ i = λ e. let both : Recvs i asked take refuse ≡ Sends j head bytes after = sym meets ∙ ap (next_at next_of c) e ∙ at in cc in
      let long : length bytes ≡ head.len = subst IsLong here.2 (long_next here.0) in
      let sent : counted after ≡ counted here.0 + g head = with_call here.0.matched after.matched (Send j head bytes) (g head) (logged here.0 (Sends j head bytes after) here.2) (is.sends j head bytes long) in
      let got : counted (take bytes) ≡ counted peer.0 + 0 = with_call peer.0.matched (take bytes).matched (Recv i asked bytes) 0 ((logged peer.0 (Recvs i asked take refuse) peer.2).0 bytes) (is.gets i asked bytes) in
      let first = more_at c.cells i after here.0 (g head) here.1 sent in
      let second = more_at (set c.cells i after) j (take bytes) peer.0 0 (cell_other c.cells i after j apart ∙ peer.1) got in
      let whole : sum_by counted (set (set c.cells i after) j (take bytes)) ≡ sum_by counted c.cells + g head = omega (arith, first, second) in
      let one : brings (messages_brought next_of line c i) ≡ g head =
      ap (λ (n : Next State). brings (brought_by line c i n)) at ∙ one_brought (match_of i j head (statement_line_at line c i) (statement_line_at line c j)) in
      subst (Adds c i) (sym made) (whole ∙ ap (λ (n : ℕ). total c + n) (sym one))
  step_adds keys c d i quiet (Fetched j asked take refuse message at slot mine same made) = absurd (quiet.slots j message slot)
  step_adds keys c d i quiet (RefusedPost j asked take refuse message at slot mine same made) = absurd (quiet.slots j message slot)
  step_adds keys c d i quiet (RefusedSend j asked take refuse sent bytes after at slot meets same made) =
      let here = stands c i (Recvs j asked take refuse) at (λ e. cc) in
      let stays : counted (refuse sent) ≡ counted here.0 + 0 = ap (sum_by m) ((logged here.0 (Recvs j asked take refuse) here.2).1 sent) ∙ omega arith in
      let now = more_at c.cells i (refuse sent) here.0 0 here.1 stays in
      let none : brings (messages_brought next_of line c i) ≡ 0 =
      ap (λ (n : Next State). brings (brought_by line c i n)) at ∙ ap (λ (o : Option Posted). brings (brought_by_take i j asked (statement_line_at line c i) o)) slot in
      subst (Adds c i) (sym made) (now ∙ ap (λ (n : ℕ). total c + n) (sym none))
  step_adds keys c d i quiet (Passed comm after at root all made) =
      let now : sum_by counted (by_rank (λ rank. past_if next_of (is_with (keys comm) i rank)) c.cells) ≡ sum_by counted c.cells + 0 = passed_counted c comm (is_with (keys comm) i) all ∙ omega arith in
      let none : brings (messages_brought next_of line c i) ≡ 0 = ap (λ (n : Next State). brings (brought_by line c i n)) at in
      subst (Adds c i) (sym made) (now ∙ ap (λ (n : ℕ). total c + n) (sym none))

  -- the step with the lowest owner, and what it brings
  lowest_owner : (keys : ℕ → ℕ → ℕ) (c d : Configuration State) (n i : ℕ) → lowest keys next_of c n i ≡ Some d
      → (k : ℕ) × (step_of keys next_of c k ≡ Some d) × (lowest_brought keys next_of line c n i ≡ messages_brought next_of line c k)
  lowest_owner keys c d zero i found = absurd (cc)
  lowest_owner keys c d (suc n) i found = by (step_of keys next_of c i) refl found (λ there. lowest_owner keys c d n (i + 1) there)
    where
      chosen : (o : Option (Configuration State)) → step_of keys next_of c i ≡ o → lowest_brought keys next_of line c (suc n) i ≡ cond (is_some o) (messages_brought next_of line c i) (lowest_brought keys next_of line c n (i + 1))
      chosen o here = ap (λ (x : Option (Configuration State)). cond (is_some x) (messages_brought next_of line c i) (lowest_brought keys next_of line c n (i + 1))) here

      by : (o : Option (Configuration State)) → step_of keys next_of c i ≡ o → option_or o (lowest keys next_of c n (i + 1)) ≡ Some d
          → (lowest keys next_of c n (i + 1) ≡ Some d → (k : ℕ) × (step_of keys next_of c k ≡ Some d) × (lowest_brought keys next_of line c n (i + 1) ≡ messages_brought next_of line c k))
          → (k : ℕ) × (step_of keys next_of c k ≡ Some d) × (lowest_brought keys next_of line c (suc n) i ≡ messages_brought next_of line c k)
      by (Some e) here there rest = (i, here ∙ there, chosen (Some e) here)
      by None here there rest =
          let (k, step, same) = rest there in
          (k, step, chosen None here ∙ same)

  -- a run
  run_adds : (keys : ℕ → ℕ → ℕ) (n : ℕ) (c : Configuration State) → AllQuiet c → total (run_on keys next_of n c) ≡ total c + brings (matches_on keys next_of line n c)
  run_adds keys zero c quiet = omega arith
  run_adds keys (suc n) c quiet = by (lowest_step keys next_of c) refl (λ d now. run_adds keys n d now)
    where
      by : (o : Option (Configuration State)) → lowest_step keys next_of c ≡ o
          → ((d : Configuration State) → AllQuiet d → total (run_on keys next_of n d) ≡ total d + brings (matches_on keys next_of line n d))
          → total (option_map_or (run_on keys next_of n) o c) ≡ total c + brings (option_map_or (λ d. step_brought keys next_of line c ++ matches_on keys next_of line n d) o [])
      by None found rest = omega arith
      by (Some d) found rest =
          let owned = lowest_owner keys c d (length c.cells) 0 found in
          let one : total d ≡ total c + brings (messages_brought next_of line c owned.0) = step_adds keys c d owned.0 quiet (steps.seen keys next_of c d owned.0 owned.1) in
          let on = rest d (kept_runs Quiet Nothing quiet_next keys 1 c d (owned.0, d, owned.1, refl) quiet) in
          let brought_is : brings (step_brought keys next_of line c) ≡ brings (messages_brought next_of line c owned.0) = ap brings owned.2 in
          let both = sum_by-append (λ (x : Match). g x.head) (step_brought keys next_of line c) (matches_on keys next_of line n d) in
          omega (arith, one, on, brought_is, both)

  none_sent : (script : Script) (ranks : List ℕ) → sum_by (λ (rank : ℕ). counted (start_of_rank script rank)) ranks ≡ 0
  none_sent script [] = refl
  none_sent script (rank ∷ ranks) =
      let rest = none_sent script ranks in
      let first : counted (start_of_rank script rank) ≡ 0 = refl in
      omega (arith, rest, first, sum_by-cons (λ (k : ℕ). counted (start_of_rank script k)) rank ranks)

  -- at the start nothing is sent
  start_none : (script : Script) → total (start_of script) ≡ 0
  start_none script = sum_by-map counted (start_of_rank script) (range_with_len 0 script.nue) ∙ none_sent script (range_with_len 0 script.nue)

start_quiet : (script : Script) → AreUsual script.items → AllQuiet (start_of script)
start_quiet script usual = record {
  cells = λ k u here. subst (λ (v : State). Quiet k v) (start_cell script k u here) (quiet_program script k usual);
  slots = λ k message full. let none : slot_at (start_of script) k ≡ None = empty_slot script.nue k in let both : None ≡ Some message = sym none ∙ full in cc;
}

-- the messages themselves, and their bytes
counts_sends : Measures sends_of_call (λ head. 1)
counts_sends = record { sends = λ to head bytes long. refl; gets = λ from head bytes. refl; meets = λ comm. refl }

counts_bytes : Measures sent_bytes_of (λ head. head.len)
counts_bytes = record { sends = λ to head bytes long. long; gets = λ from head bytes. refl; meets = λ comm. refl }

abbrev at_line : State → ℕ
at_line u = statement_line u.local

ones : (matches : List Match) → sum_by (λ (x : Match). 1) matches ≡ length matches
ones [] = refl
ones (x ∷ matches) = let rest = ones matches in omega (arith, rest, sum_by-cons (λ (y : Match). 1) x matches)

-- at the plain end all that was sent has come
pub sends_came : (script : Script) → AreUsual script.items → all_sends (plain_end script) ≡ length (plain_matches script)
sends_came script usual =
    let none : all_sends (start_of script) ≡ 0 = start_none sends_of_call (λ head. 1) counts_sends at_line script in
    let all : all_sends (plain_end script) ≡ all_sends (start_of script) + sum_by (λ (x : Match). 1) (plain_matches script) =
    run_adds sends_of_call (λ head. 1) counts_sends at_line (keys_of script) (steps_left (start_of script)) (start_of script) (start_quiet script usual) in
    let many = ones (plain_matches script) in
    omega (arith, none, all, many)

pub bytes_came : (script : Script) → AreUsual script.items → all_sent_bytes (plain_end script) ≡ message_bytes (plain_matches script)
bytes_came script usual =
    let none : all_sent_bytes (start_of script) ≡ 0 = start_none sent_bytes_of (λ head. head.len) counts_bytes at_line script in
    let all : all_sent_bytes (plain_end script) ≡ all_sent_bytes (start_of script) + message_bytes (plain_matches script) =
    run_adds sent_bytes_of (λ head. head.len) counts_bytes at_line (keys_of script) (steps_left (start_of script)) (start_of script) (start_quiet script usual) in
    omega (arith, none, all)
