-- The log of a chip's finished calls is read back from its text, and is legal.
use Rattle.std.proofs.Common.{◌≡◌, ⊎_elim, ℕ, suc, ◌<◌, ◌≤◌, List, [], ◌∷◌, length, map, Ok, refl, sym, ap, ◌∙◌, subst, arith, length-append}
use Rattle.std.specs.Prelude.{All, flat_map}
use Rattle.std.specs.List.{range_with_len}
use Rattle.std.proofs.lemmas.Bool.{cases_lt}
use Rattle.std.proofs.lemmas.List.{get_or_past}
use Rattle.std.proofs.lemmas.List.Elements.{All-nil, All-cons, All-head, All-tail}
use Rattle.std.proofs.lemmas.List.FromFn.{get_or-map-range_with_len, length-map-range_with_len}
use Rattle.scc_base.specs.Calls.{DataCall, Send, Recv, Post, Bar, call_of}
use Rattle.scc_base.specs.Communicators.{key_of}
use Rattle.scc_base.specs.Heads.{MessageHead, IsHead, IsPostHead}
use Rattle.scc_base.specs.Setups.{SetupView, setup_key}
use Rattle.scc_proto.specs.Legality.{IsLegal}
use Rattle.scc_proto.specs.Passed.{slot_of}
use Rattle.scc_mesh.specs.Scenes.{ChipView, about_in, events_in, records_in}
use Rattle.script_rules.specs.Script.{Script, first_split, rules_of}
use Rattle.script_rules.specs.Settled as settled
use Rattle.call_tap.specs.Bytes.{HasBytes}
use Rattle.rank_monitor.specs.Following.{moved_by}
use Rattle.call_tap.proofs.ByteLaws.{calls_have_bytes}
use Rattle.log_run.specs.LogRuns.{AreOwnCalls, HasRunLogged, IsOwnCall, plain_calls}
use Rattle.rcce_audit.specs.declared.verdicts.Verdict.{Verdict}
use Rattle.rcce_audit.specs.declared.verdicts.Verdict.TheVariants as verdict
use Rattle.rcce_audit.specs.Grammar.{log_of}
use Rattle.rcce_audit.specs.Held.{bytes_in}
use Rattle.rcce_audit.specs.Logs.{IsLog, IsLogCall, calls_at_rank}
use Rattle.rcce_audit.specs.Sizes.{AreFew, bytes_moved}
use Rattle.rcce_audit.specs.Texts.{log_text}
use Rattle.rcce_audit.specs.Verdicts.{IsLegalLog, IsVerdict}
use Rattle.rcce_audit.proofs.SizeLemmas.{few_fit}
use Rattle.rcce_audit.proofs.StandingLemmas.{legal_told}
use Rattle.rcce_audit.proofs.VerdictLemmas.{verdict_found}
use Rattle.rcce_audit.proofs.WritingLemmas.{text_told}
use Rattle.audit_program.specs.History.{log_setup_by}
use Rattle.audit_program.specs.Program.{script_log}
use Rattle.audit_program.proofs.LogLemmas.{one_long, past_none}

-- ---- calls of a script's run are calls that a log may have

post_is_head : (head : MessageHead) → IsPostHead head → IsHead head
post_is_head head is =
    let kind = is.plain in
    let comm = is.in_world in
    let len = is.len_within in
    record { kind_below = omega (arith, kind); comm_below = omega (arith, comm); len_within = omega (arith, len); plain_in_world = λ plain. comm }

own_call : (script : Script) (rank : ℕ) (call : DataCall) → IsOwnCall script rank call → HasBytes call → IsLogCall script.nue (rules_of script.items) rank call
own_call script rank (Send to head bytes) (peer, valid, counted) are = record { peer_below = peer.below; other = peer.other; valid = valid; counted = counted; are_bytes = are }
own_call script rank (Recv from head bytes) (peer, valid, counted) are = record { peer_below = peer.below; other = peer.other; valid = valid; counted = counted; are_bytes = are }
own_call script rank (Post to head bytes) (peer, valid, counted) are =
    (record { peer_below = peer.below; other = peer.other; valid = post_is_head head valid; counted = counted; are_bytes = are }, valid)
own_call script rank (Bar comm) is are = is

own_calls : (script : Script) (rank : ℕ) (calls : List DataCall) → All (IsOwnCall script rank) calls → All HasBytes calls → All (IsLogCall script.nue (rules_of script.items) rank) calls
own_calls script rank [] own are = All-nil (IsLogCall script.nue (rules_of script.items) rank)
own_calls script rank (call ∷ calls) own are =
    All-cons (IsLogCall script.nue (rules_of script.items) rank) call calls
    (own_call script rank call (All-head (IsOwnCall script rank) call calls own) (All-head HasBytes call calls are))
    (own_calls script rank calls (All-tail (IsOwnCall script rank) call calls own) (All-tail HasBytes call calls are))

-- the bytes that they move are their own
moved_one : (script : Script) (rank : ℕ) (call : DataCall) → IsOwnCall script rank call → bytes_in (call_of call) ≡ length (moved_by call)
moved_one script rank (Send to head bytes) own = one_long (Send to head bytes) own.2
moved_one script rank (Recv from head bytes) own = one_long (Recv from head bytes) own.2
moved_one script rank (Post to head bytes) own = one_long (Post to head bytes) own.2
moved_one script rank (Bar comm) own = refl

moved_all : (script : Script) (rank : ℕ) (calls : List DataCall) → All (IsOwnCall script rank) calls → bytes_moved calls ≡ length (flat_map moved_by calls)
moved_all script rank [] own = refl
moved_all script rank (call ∷ calls) own =
    let one = moved_one script rank call (All-head (IsOwnCall script rank) call calls own) in
    let rest = moved_all script rank calls (All-tail (IsOwnCall script rank) call calls own) in
    omega (arith, one, rest) ∙ sym (length-append (moved_by call) (flat_map moved_by calls))

few_own : (script : Script) (rank : ℕ) (calls : List DataCall) → AreOwnCalls script rank calls → AreFew calls
few_own script rank calls is =
    let moved = moved_all script rank calls is.own in
    let bytes = is.room.bytes_within in
    record { calls_within = is.room.calls_within; bytes_within = omega (arith, moved, bytes) }

-- ---- the log

module _ (script : Script) (chip : ChipView) (read : settled.IsWholeScript script.nue script.items) (run : HasRunLogged script (log_setup_by script) chip) where
  -- of the ranks that a log has
  calls_at : (k : ℕ) → k < 48 → calls_at_rank (script_log script).lists k ≡ plain_calls script k
  calls_at k low = get_or-map-range_with_len (plain_calls script) 0 48 k k [] low (omega arith)

  calls_past : (k : ℕ) → 48 ≤ k → calls_at_rank (script_log script).lists k ≡ []
  calls_past k past = get_or_past (map (plain_calls script) (range_with_len 0 48)) k [] (omega (arith, past, length-map-range_with_len (plain_calls script) 0 48))

  none_at : (k : ℕ) → script.nue ≤ k → calls_at_rank (script_log script).lists k ≡ []
  none_at k past =
      ⊎_elim
      (λ (low : k < 48). calls_at k low ∙ past_none script k past)
      (λ (far : 48 ≤ k). calls_past k far)
      (cases_lt k 48)

  within : (k : ℕ) → k < script.nue → k < 48
  within k low = let most = read.most in omega (arith, low, most)

  -- each call of a rank is one that a log may have
  valid_at : (k : ℕ) → k < script.nue → All (IsLogCall script.nue (rules_of script.items) k) (plain_calls script k)
  valid_at k low =
      own_calls script k (plain_calls script k) (run.own k low).own
      (subst (λ (done : List DataCall). All HasBytes done) (run.finished k) (calls_have_bytes (about_in chip) k (events_in chip k)))

  valid : (k : ℕ) → All (IsLogCall script.nue (rules_of script.items) k) (calls_at_rank (script_log script).lists k)
  valid k =
      let P : List DataCall → Type 0 = All (IsLogCall script.nue (rules_of script.items) k) in
      ⊎_elim
      (λ (low : k < script.nue). subst P (sym (calls_at k (within k low))) (valid_at k low))
      (λ (past : script.nue ≤ k). subst P (sym (none_at k past)) (All-nil (IsLogCall script.nue (rules_of script.items) k)))
      (cases_lt k script.nue)

  few : (k : ℕ) → AreFew (calls_at_rank (script_log script).lists k)
  few k =
      ⊎_elim
      (λ (low : k < script.nue). subst AreFew (sym (calls_at k (within k low))) (few_own script k (plain_calls script k) (run.own k low)))
      (λ (past : script.nue ≤ k). subst AreFew (sym (none_at k past)) (record { calls_within = omega arith; bytes_within = omega arith }))
      (cases_lt k script.nue)

  is_log : IsLog (script_log script)
  is_log = record {
    some_ranks = read.some;
    ranks_within = read.most;
    sixteen = ap suc (length-map-range_with_len (first_split script.items) 1 15);
    rules = read.rules;
    ranks = length-map-range_with_len (plain_calls script) 0 48;
    no_others = none_at;
    calls = valid;
  }

  -- its text is read as this log
  pub read_back : log_of (log_text (script_log script)) ≡ Ok (script_log script)
  read_back = text_told (script_log script) (few_fit (script_log script) is_log few)

  -- it is legal
  same_calls : (k : ℕ) → (records_in chip k).calls ≡ calls_at_rank (script_log script).lists k
  same_calls k =
      run.finished k
      ∙ ⊎_elim
      (λ (low : k < 48). sym (calls_at k low))
      (λ (far : 48 ≤ k). let most = read.most in past_none script k (omega (arith, far, most)) ∙ sym (calls_past k far))
      (cases_lt k 48)

  is_legal : IsLegalLog (script_log script)
  is_legal =
      let slots = slot_of (about_in chip) (records_in chip) in
      let own : IsLegal script.nue (key_of (rules_of script.items)) (λ k. (records_in chip k).calls) slots =
      subst (λ (s : SetupView). IsLegal s.nue (setup_key s) (λ k. (records_in chip k).calls) slots) run.setup run.legal in
      (slots, subst (λ (calls : ℕ → List DataCall). IsLegal script.nue (key_of (rules_of script.items)) calls slots) (λ i k. same_calls k i) own)

  pub judged_legal : IsVerdict (script_log script) verdict.Yes
  judged_legal =
      let found = verdict_found (script_log script) calls_past in
      let told = found.1 in
      let yes : found.0 ≡ verdict.Yes = (legal_told (script_log script) found.0 told.0 told.1 told.2).1 is_legal in
      subst (λ (v : Verdict). IsVerdict (script_log script) v) yes told
