-- The law of a sweep for the ranks of a script.
use Rattle.std.proofs.Common.{◌≡◌, ⊎_elim, ℕ, ◌<◌, ◌≤◌, List, map, Option, Some, None, sym, ap, ◌∙◌, subst, arith, slice_get}
use Rattle.std.specs.List.{range_with_len}
use Rattle.std.specs.Option.{option_map}
use Rattle.std.proofs.lemmas.Bool.{cases_lt}
use Rattle.std.proofs.lemmas.List.{get_or-replicate, length-replicate}
use Rattle.std.proofs.lemmas.List.FromFn.{get_or-map-range_with_len, length-map-range_with_len}
use Rattle.std.proofs.lemmas.Option.{slice_get-get_or, slice_get_past}
use Rattle.scc_base.specs.Communicators.{key_of}
use Rattle.scc_base.specs.Runs.{EndsAt, IsStill, Runs}
use Rattle.scc_base.specs.Setups.{SetupView, setup_key}
use Rattle.scc_proto.specs.Legality.{Outgoing}
use Rattle.scc_proto.specs.Passed.{slot_by, slot_of}
use Rattle.scc_proto.specs.Records.{chunk_of}
use Rattle.scc_proto.specs.Stages.{InFlight, Record}
use Rattle.scc_proto.specs.Views.{view_of}
use Rattle.scc_proto.specs.Words.{Memory}
use Rattle.script_rules.specs.Script.{Script}
use Rattle.script_machine.specs.declared.posts.Posted.{Posted}
use Rattle.plain_meaning.specs.Collectives.{start_of_rank}
use Rattle.plain_meaning.specs.Meaning.{IsPlainStep, State, keys_of, next_of, plain_end, start_of, steps_left}
use Rattle.script_machine.specs.Next.Next.{Recvs}
use Rattle.plain_meaning.specs.Step.{IsStepOf}
use Rattle.plain_meaning.proofs.OwnWays.CameDid.{did_matched, logged}
use Rattle.plain_meaning.proofs.Orders.EndLaws.{is_still, reached}
use Rattle.plain_meaning.proofs.Runs.PlainLaws.{plain_end_still}
use Rattle.rcce_run.specs.Scripts.{IsSwept}
use Rattle.chip_run.specs.Waiting.{SlotWaits}
use Rattle.rcce_run.specs.Sweep.{IsStateOfRecord, Running, Stopped, keep, slots_by, outgoing, at_rank, HoldsStates}
use Rattle.rcce_run.proofs.Holding.{at_below, at_past, posted_there}
use Rattle.rcce_run.proofs.Refusals.{told}
use Rattle.chip_run.proofs.Offers.{message_on, post_in_slot}
use Rattle.rcce_run.proofs.SweepLaw.{swept_ends}

-- the start of a script, read by rank
pub start_holds : (script : Script) → HoldsStates script.nue (start_of script) (start_of_rank script) (λ k. None)
start_holds script = record { cells_at = cell; slots_at = slot }
  where
    cells : List State
    cells = map (λ (rank : ℕ). start_of_rank script rank) (range_with_len 0 script.nue)

    cell : (k : ℕ) → slice_get (start_of script).cells k ≡ at_rank script.nue k (start_of_rank script k)
    cell k =
        ⊎_elim
        (λ (low : k < script.nue).
        slice_get-get_or (start_of script).cells k (start_of_rank script k) (subst (λ (n : ℕ). k < n) (sym (length-map-range_with_len (start_of_rank script) 0 script.nue)) low)
        ∙ ap Some (get_or-map-range_with_len (start_of_rank script) 0 script.nue k k (start_of_rank script k) low (omega arith))
        ∙ sym (at_below script.nue k (start_of_rank script k) low))
        (λ (past : script.nue ≤ k).
        slice_get_past (start_of script).cells k (subst (λ (n : ℕ). n ≤ k) (sym (length-map-range_with_len (start_of_rank script) 0 script.nue)) past)
        ∙ sym (at_past script.nue k (start_of_rank script k) past))
        (cases_lt k script.nue)

    slot : (k : ℕ) → slice_get (start_of script).slots k ≡ at_rank script.nue k None
    slot k =
        ⊎_elim
        (λ (low : k < script.nue).
        slice_get-get_or (start_of script).slots k None (subst (λ (n : ℕ). k < n) (sym (length-replicate {A = Option Posted} script.nue None)) low)
        ∙ ap Some (get_or-replicate script.nue k None None low)
        ∙ sym (at_below script.nue k None low))
        (λ (past : script.nue ≤ k).
        slice_get_past (start_of script).slots k (subst (λ (n : ℕ). n ≤ k) (sym (length-replicate {A = Option Posted} script.nue None)) past)
        ∙ sym (at_past script.nue k None past))
        (cases_lt k script.nue)

module _ (script : Script) (s : SetupView) (memory : Memory) (records : ℕ → Record) (states : ℕ → State) (lasts : ℕ → Option Posted) (sw : IsSwept script s memory records states lasts) where
  same_keys : setup_key s ≡ keys_of script
  same_keys = ap key_of sw.comms

  start : HoldsStates s.nue (start_of script) (start_of_rank script) (λ k. None)
  start = subst (λ (n : ℕ). HoldsStates n (start_of script) (start_of_rank script) (λ k. None)) (sym sw.ranks) (start_holds script)

  pub script_ends : HoldsStates script.nue (plain_end script) states (slots_by s records lasts)
  script_ends =
      let (n, run) = reached (keys_of script) next_of (steps_left (start_of script)) (start_of script) (plain_end_still script) in
      let here : Runs (IsStepOf (setup_key s) next_of) (EndsAt (IsStepOf (setup_key s) next_of) (plain_end script)) n (start_of script) =
      subst (λ (keys : ℕ → ℕ → ℕ). Runs (IsStepOf keys next_of) (EndsAt (IsStepOf keys next_of) (plain_end script)) n (start_of script)) (sym same_keys) run in
      subst (λ (m : ℕ). HoldsStates m (plain_end script) states (slots_by s records lasts)) sw.ranks
      (swept_ends next_of s memory records (start_of_rank script) states lasts sw.swept n (start_of script) (plain_end script) start here)

  pub script_still : IsStill (IsPlainStep (keys_of script)) (plain_end script)
  script_still = is_still (keys_of script) next_of (plain_end script) (plain_end_still script)

  pub script_slots : (k : ℕ) → option_map outgoing (slots_by s records lasts k) ≡ slot_of s records k
  script_slots k = told next_of s memory records (start_of_rank script) states lasts sw.swept (start_of script) start k

  pub script_waits : (k : ℕ) → k < s.nue → SlotWaits (view_of s memory) k (records k) → (message : Posted) × (lasts k ≡ Some message) × (slots_by s records lasts k ≡ Some message)
  script_waits k low waits =
      let full = post_in_slot s memory records sw.swept.agrees k low waits in
      let (message, there, is) = posted_there (slots_by s records lasts k) (message_on s waits.post) (script_slots k ∙ full) in
      (message, sym (ap (λ (o : Option Outgoing). keep o (lasts k)) full) ∙ there, there)

  pub script_empty : (k : ℕ) → (records k).post ≡ None → slots_by s records lasts k ≡ None
  script_empty k none = ap (λ (o : Option InFlight). keep (slot_by (chunk_of s) k o records) (lasts k)) none

  calls_by : (k : ℕ) → IsStateOfRecord next_of s k (start_of_rank script k) (records k) (states k) (lasts k) → (records k).calls ≡ (states k).matched
  calls_by k (Running did) = sym (did_matched (states k) (lasts k) (start_of_rank script k) None (records k).calls did)
  calls_by k (Stopped before did refused) =
      let same : (states k).matched ≡ before.matched =
      ap (λ (u : State). u.matched) refused.stopped
      ∙ (logged before (Recvs refused.from refused.asked refused.take refused.refuse) refused.stands).1 _ in
      sym (same ∙ did_matched before (lasts k) (start_of_rank script k) None (records k).calls did)

  pub script_calls : (k : ℕ) → k < s.nue → (records k).calls ≡ (states k).matched
  script_calls k low = calls_by k (sw.swept.stands k low)
