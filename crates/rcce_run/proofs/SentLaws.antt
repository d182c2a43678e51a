-- What a UE has counted of the messages that it sent, at the end of a run.
use Rattle.std.proofs.Common.{◌≡◌, ℕ, ◌+◌, ◌*◌, ◌<◌, ◌≤◌, Bool, true, false, cond, List, [], ◌∷◌, ◌++◌, length, slice_index_or, Option, refl, sym, ap, ◌∙◌, subst, arith, sum_by}
use Rattle.std.specs.List.{count_by}
use Rattle.std.proofs.lemmas.List.Sums.{sum_by-append}
use Rattle.scc_base.specs.Calls.{DataCall}
use Rattle.scc_base.specs.Calls.DataCall.{Send, Recv, Post, Bar}
use Rattle.scc_base.specs.Setups.{SetupView}
use Rattle.scc_base.specs.declared.events.Event.{Event}
use Rattle.scc_proto.specs.Ports.{record_in}
use Rattle.scc_proto.specs.Records.{record_of}
use Rattle.scc_proto.specs.Stages.{Record}
use Rattle.scc_mesh.specs.Scenes.{ChipView, about_in, events_in, records_in}
use Rattle.script_rules.specs.Script.{Script}
use Rattle.script_rules.specs.Settled.{IsWholeScript}
use Rattle.script_machine.specs.declared.posts.Posted.{Posted}
use Rattle.plain_meaning.specs.Collectives.{start_of_rank}
use Rattle.script_machine.specs.Local.{Local, most_steps_left, local_next, local_start}
use Rattle.plain_meaning.specs.Meaning.{State, next_of, next_with_calls}
use Rattle.script_machine.specs.Next.{Next}
use Rattle.script_machine.specs.Next.Next.{Ends, Goes, Posts, Sends, Recvs, Bars}
use Rattle.plain_meaning.specs.Paths.{Came}
use Rattle.plain_meaning.specs.Paths.Came.{Began, Went, Leaves, Passed, Took, Joined}
use Rattle.plain_meaning.specs.Ready.{CanMakeNext}
use Rattle.plain_meaning.proofs.OwnWays.CameDid.{logged}
use Rattle.plain_meaning.proofs.Runs.Costs.{Lowers}
use Rattle.plain_meaning.proofs.Runs.PlainLaws.{state_lowers}
use Rattle.plain_meaning.proofs.ProgramLengths.ReadyLemmas.{ready-law}
use Rattle.rcce_ue.specs.Standing as ue
use Rattle.rcce_ue.specs.Standing.{Tied, bytes_sent}
use Rattle.rcce_ue.specs.Ues.{UeView, is_send_call}
use Rattle.chip_run.specs.declared.members.Member.{Member}
use Rattle.chip_run.specs.Crews.{IsCrew}
use Rattle.rcce_run.specs.Crews.{AllRun}
use Rattle.rcce_run.specs.Sent.{CountsSends}
use Rattle.rcce_run.specs.UeRuns.{ue_members, member_ue}
use Rattle.rcce_run.proofs.UeFits.{some_sight}

-- the sends and posts among calls, and their bytes, with one call more
count_more : (calls : List DataCall) (call : DataCall) → count_by is_send_call (calls ++ call ∷ []) ≡ count_by is_send_call calls + cond (is_send_call call) 1 0
count_more calls call = let added = sum_by-append (λ (x : DataCall). cond (is_send_call x) 1 0) calls (call ∷ []) in omega (arith, added)

bytes_more : (calls : List DataCall) (call : DataCall) → sum_by bytes_sent (calls ++ call ∷ []) ≡ sum_by bytes_sent calls + bytes_sent call
bytes_more calls call = let added = sum_by-append bytes_sent calls (call ∷ []) in omega (arith, added)

-- few messages, and short ones
record AreFew (calls : List DataCall) (left most : ℕ) : Type 0 where
  few : count_by is_send_call calls + left ≤ most
  short : sum_by bytes_sent calls ≤ 65536 * count_by is_send_call calls

-- fewer steps are left, and nothing is sent, or one message
few_same : (calls now : List DataCall) (left less most : ℕ) → now ≡ calls → less < left → AreFew calls left most → AreFew now less most
few_same calls now left less most same low few =
    subst (λ (l : List DataCall). AreFew l less most) (sym same) (record { few = omega (arith, few.few, low); short = few.short })

few_quiet : (calls now : List DataCall) (call : DataCall) (left less most : ℕ) → now ≡ calls ++ call ∷ [] → is_send_call call ≡ false → bytes_sent call ≡ 0 → less < left → AreFew calls left most → AreFew now less most
few_quiet calls now call left less most same quiet none low few =
    let count : count_by is_send_call (calls ++ call ∷ []) ≡ count_by is_send_call calls = count_more calls call ∙ ap (λ (b : Bool). count_by is_send_call calls + cond b 1 0) quiet ∙ omega arith in
    let bytes = bytes_more calls call in
    subst (λ (l : List DataCall). AreFew l less most) (sym same) (record {
      few = omega (arith, few.few, low, count);
      short = omega (arith, few.short, count, bytes, none);
    })

few_more : (calls now : List DataCall) (call : DataCall) (left less most : ℕ) → now ≡ calls ++ call ∷ [] → is_send_call call ≡ true → bytes_sent call ≤ 65536 → less < left → AreFew calls left most → AreFew now less most
few_more calls now call left less most same sends short low few =
    let count : count_by is_send_call (calls ++ call ∷ []) ≡ count_by is_send_call calls + 1 = count_more calls call ∙ ap (λ (b : Bool). count_by is_send_call calls + cond b 1 0) sends in
    let bytes = bytes_more calls call in
    subst (λ (l : List DataCall). AreFew l less most) (sym same) (record {
      few = omega (arith, few.few, low, count);
      short = omega (arith, few.short, count, bytes, short);
    })

module _ (script : Script) (rank : ℕ) (whole : IsWholeScript script.nue script.items) (within : rank < script.nue) where
  lowered : (u : State) (n : Next State) → next_of u ≡ n → Lowers (λ (v : State). most_steps_left v.local) (most_steps_left u.local) n
  lowered u n is = subst (Lowers (λ (v : State). most_steps_left v.local) (most_steps_left u.local)) is (state_lowers u)

  -- the call that stands next can be made
  recorded_ready : (calls : List DataCall) (n : Next Local) → CanMakeNext script rank n → CanMakeNext script rank (next_with_calls calls n)
  recorded_ready calls Ends ready = tt
  recorded_ready calls (Goes after) ready = tt
  recorded_ready calls (Posts message after) ready = ready
  recorded_ready calls (Sends to head bytes after) ready = ready
  recorded_ready calls (Recvs from head take refuse) ready = ready
  recorded_ready calls (Bars comm after) ready = ready

  ready : (u : State) (n : Next State) (last : Option Posted) → Came next_of (start_of_rank script rank) u last → next_of u ≡ n → CanMakeNext script rank n
  ready u n last came is = subst (CanMakeNext script rank) is (recorded_ready u.matched (local_next u.local) (ready-law script rank whole within u last came))

  abbrev Few : State → Type 0
  Few u = AreFew u.matched (most_steps_left u.local) (most_steps_left (local_start script rank))

  -- a rank that has come to a state by itself
  few_came : (u : State) (last : Option Posted) → Came next_of (start_of_rank script rank) u last → Few u
  few_came u last Began = record { few = omega arith; short = omega arith }
  few_came w end (Went u v last came is) =
      few_same u.matched v.matched (most_steps_left u.local) (most_steps_left v.local) (most_steps_left (local_start script rank)) (logged u (Goes v) is) (lowered u (Goes v) is) (few_came u last came)
  few_came w end (Leaves u v last message came is) =
      let can = ready u (Posts message v) last came is in
      let fits = can.1.len_within in
      let long = can.2 in
      few_more u.matched v.matched (Post message.to message.head message.bytes) (most_steps_left u.local) (most_steps_left v.local) (most_steps_left (local_start script rank)) (logged u (Posts message v) is) refl
      (omega (arith, fits, long)) (lowered u (Posts message v) is) (few_came u last came)
  few_came w end (Passed u v last to head bytes came is) =
      let can = ready u (Sends to head bytes v) last came is in
      let fits = can.1.len_within in
      let long = can.2 in
      few_more u.matched v.matched (Send to head bytes) (most_steps_left u.local) (most_steps_left v.local) (most_steps_left (local_start script rank)) (logged u (Sends to head bytes v) is) refl
      (omega (arith, fits, long)) (lowered u (Sends to head bytes v) is) (few_came u last came)
  few_came w end (Took u last from head bytes take refuse even came is) =
      few_quiet u.matched (take bytes).matched (Recv from head bytes) (most_steps_left u.local) (most_steps_left (take bytes).local) (most_steps_left (local_start script rank)) ((logged u (Recvs from head take refuse) is).0 bytes) refl refl
      ((lowered u (Recvs from head take refuse) is).0 bytes) (few_came u last came)
  few_came w end (Joined u v last comm came is) =
      few_quiet u.matched v.matched (Bar comm) (most_steps_left u.local) (most_steps_left v.local) (most_steps_left (local_start script rank)) (logged u (Bars comm v) is) refl refl
      (lowered u (Bars comm v) is) (few_came u last came)

  -- and one that a mismatch stopped there
  few_stood : (rec : Record) (u : Local) (last : Option Posted) → ue.Stood (start_of_rank script rank) rec u last → (v : Local) × Few (ue.state_at v rec.calls)
  few_stood rec u last (ue.Runs came) = (u, few_came (ue.state_at u rec.calls) last came)
  few_stood rec u last (ue.Refused v from head sent take refuse header came is other noted says at stopped) = (v, few_came (ue.state_at v rec.calls) last came)

-- a UE that fits its rank's events
counts_tied : (x : UeView) (s : SetupView) (rank : ℕ) (events : List Event) → Tied x (some_sight s rank events) → CountsSends x.machine.script rank (record_of s rank events) x
unfolding record_in
counts_tied x s rank events tied =
    let script = x.machine.script in
    let within : rank < script.nue = subst (λ (k : ℕ). k < script.nue) (sym tied.rank_is) tied.begun.within in
    let stood : ue.Stood (start_of_rank script rank) (record_of s rank events) x.machine.local tied.last = subst (λ (k : ℕ). ue.Stood (start_of_rank script k) (record_of s rank events) x.machine.local tied.last) (sym tied.rank_is) tied.stood in
    let few = few_stood script rank tied.begun.whole within (record_of s rank events) x.machine.local tied.last stood in
    record { sent = tied.sent_is; bytes = tied.bytes_are; few = omega (arith, few.1.few); short = few.1.short }

module _ (script : Script) (chip : ChipView) (crew : List (Member UeView)) (is_crew : IsCrew ue_members chip crew) (all_run : AllRun member_ue script crew) (some : 0 < length crew) (d : Member UeView) where
  abbrev ue_at : ℕ → UeView
  ue_at k = (slice_index_or crew k d).worker

  tied_at : (k : ℕ) → k < length crew → Tied (ue_at k) (some_sight (about_in chip) k (events_in chip k))
  tied_at k low = (is_crew.ties k d low).ties.tied (some_sight (about_in chip) k (events_in chip k)) refl refl refl

  ranks : (about_in chip).nue ≡ script.nue
  ranks =
      let first = tied_at 0 some in
      ap (λ (s : SetupView). s.nue) first.setup_is ∙ first.begun.ranks ∙ ap (λ (x : Script). x.nue) (all_run 0 d some)

  -- each UE of a crew has counted what its rank has sent
  pub counts_sends : (k : ℕ) → k < script.nue → CountsSends script k (records_in chip k) (ue_at k)
  counts_sends k less =
      let low : k < length crew = subst (λ (n : ℕ). k < n) (sym (is_crew.each ∙ ranks)) less in
      subst (λ (x : Script). CountsSends x k (records_in chip k) (ue_at k)) (all_run k d low) (counts_tied (ue_at k) (about_in chip) k (events_in chip k) (tied_at k low))
