-- A run whose last sweep moved nobody: all rest, and nothing is in draft.
use Rattle.std.proofs.Common.{◌≡◌, inl, inr, ℕ, ◌<◌, Bool, true, false, List, length, slice_index_or, Some, None, refl, sym, ap, ◌∙◌, subst, arith}
use Rattle.scc_base.specs.Setups.{SetupView}
use Rattle.scc_proto.specs.Passed.{call_in_stage, open_call}
use Rattle.scc_proto.specs.Records.{chunk_of}
use Rattle.scc_proto.specs.Stages.{Raised, Stage, Idle, Drafting, Sending, Between, Taking, Barrier, Record}
use Rattle.scc_proto.specs.Views.{View, view_of}
use Rattle.scc_mesh.specs.Scenes.{ChipView, about_in, records_in}
use Rattle.chip_run.specs.declared.rests.Rest.{Rest}
use Rattle.chip_run.specs.declared.rests.Rest.TheVariants as rest
use Rattle.chip_run.specs.declared.ends.RunEnd.{RunEnd}
use Rattle.chip_run.specs.declared.ends.RunEnd.TheVariants as run_end
use Rattle.chip_run.specs.Behaves.{Behaviour, WorkerView}
use Rattle.chip_run.specs.Crews.{AllRest, RunEndedAs, SweptTo, end_by}
use Rattle.chip_run.specs.Turns.{RestsAt}
use Rattle.chip_run.specs.Waiting.{IsLooking, BarWaits, AtRoot, AtMember, NoneDrafts, Waits}
use Rattle.chip_run.specs.Wants.{Want}
use Rattle.chip_run.proofs.ServedLaws.{some_worker}

-- after a sweep in which no worker moved all rest
pub all_rest_by : {A : Type 0} (c : Behaviour A) (came : Rest) (end : RunEnd) (n : ℕ) (start : ChipView) (first : List A) (chip : ChipView) (crew : List A) → end_by came ≡ Some end
    → SweptTo c came n start first chip crew → AllRest c chip crew n
all_rest_by c rest.Moved end n start first chip crew is swept = absurd (cc (is))
all_rest_by c rest.Finished end n start first chip crew is swept = λ k e low. (true, swept k e low)
all_rest_by c rest.Unfinished end n start first chip crew is (whole, one) = whole

-- and that is how the run ended
pub ends_with_by : {A : Type 0} (c : Behaviour A) (came : Rest) (end : RunEnd) (n : ℕ) (start : ChipView) (first : List A) (chip : ChipView) (crew : List A) → end_by came ≡ Some end
    → n ≡ length crew → SweptTo c came n start first chip crew → RunEndedAs c end chip crew
ends_with_by c rest.Moved end n start first chip crew is all swept = absurd (cc (is))
ends_with_by {A} c rest.Finished end n start first chip crew is all swept =
    let end_is : run_end.Finished ≡ end = cc (is) in
    subst (λ (x : RunEnd). RunEndedAs c x chip crew) end_is (subst (λ (m : ℕ). SweptTo c rest.Finished m start first chip crew) all swept)
ends_with_by {A} c rest.Unfinished end n start first chip crew is all swept =
    let end_is : run_end.Stuck ≡ end = cc (is) in
    subst (λ (x : RunEnd). RunEndedAs c x chip crew) end_is (subst (λ (m : ℕ). SweptTo c rest.Unfinished m start first chip crew) all swept)

-- ---- a rank that rests with no open call is in the midst of nothing
module _ (s : SetupView) (rec : Record) (none : open_call s rec ≡ None) where
  closed : (st : Stage) → rec.stage ≡ st → call_in_stage (chunk_of s) st ≡ None
  closed st at = ap (call_in_stage (chunk_of s)) (sym at) ∙ none

  by_looking : (from : ℕ) (st : Stage) → rec.stage ≡ st → IsLooking from st → rec.stage ≡ Idle
  by_looking from Idle at looks = at
  by_looking from (Drafting header chunk) at looks = absurd looks
  by_looking from (Sending to part message chunk) at looks = absurd looks
  by_looking from (Between i message) at looks = absurd (let some = closed (Between i message) at in cc (some))
  by_looking from (Taking i message chunk) at looks = absurd looks
  by_looking from (Barrier comm seen released) at looks = absurd looks

  by_bar : (view : View) (me comm : ℕ) → BarWaits s view me comm rec → ⊥
  by_bar view me comm (AtRoot seen j present zeroth bar less below grouped placed failed) = let some = closed (Barrier comm seen 0) bar in cc (some)
  by_bar view me comm (AtMember present apart bar failed) = let some = closed (Barrier comm 0 0) bar in cc (some)

  pub idle_by_look : (view : View) (me : ℕ) (want : Want) → Waits s view me rec want → rec.stage ≡ Idle
  idle_by_look view me Want.Nothing failed = absurd failed
  idle_by_look view me Want.Own failed = absurd failed
  idle_by_look view me Want.Slot failed = failed.stage
  idle_by_look view me (Want.Send to head) (inl slot) = slot.stage
  idle_by_look view me (Want.Send to head) (inr raise) = absurd (let some = closed (Sending to Raised raise.message raise.chunk) raise.stage in cc (some))
  idle_by_look view me (Want.Recv from) failed = by_looking from rec.stage refl failed.stage
  idle_by_look view me (Want.Bar comm) failed = absurd (by_bar view me comm failed)

-- no rank that rests has a message in draft
pub idle_at_rest : (b : Bool) (s : SetupView) (records : ℕ → Record) (k : ℕ) (w : WorkerView) → RestsAt b s records k w → open_call s (records k) ≡ None → (records k).stage ≡ Idle
idle_at_rest true s records k w rests none = rests.over.idle
idle_at_rest false s records k w (inl stopped) none = stopped.over.idle
idle_at_rest false s records k w (inr waits) none =
    let same : (waits.records k).stage ≡ (records k).stage = (waits.alike k).stage in
    sym same ∙ idle_by_look s (waits.records k) (ap (call_in_stage (chunk_of s)) same ∙ none) (view_of s waits.memory) k w.want waits.waits

pub none_drafts : {A : Type 0} (c : Behaviour A) (chip : ChipView) (crew : List A) → length crew ≡ (about_in chip).nue → AllRest c chip crew (length crew) → NoneDrafts (about_in chip) (records_in chip)
none_drafts c chip crew each rests k low none =
    let within : k < length crew = subst (λ (n : ℕ). k < n) (sym each) low in
    let d = some_worker crew (omega (arith, within)) in
    let (b, at) = rests k d within in
    idle_at_rest b (about_in chip) (records_in chip) k (c.seen (about_in chip) k (slice_index_or crew k d)) at none
