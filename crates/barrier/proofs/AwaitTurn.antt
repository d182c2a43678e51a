-- A member looks at its own release flag.
use Rattle.std.proofs.Common.{◌≡◌, ◌≢◌, ℕ, ◌/◌, ◌%◌, ◌<◌, Bool, List, [], ◌∷◌, ◌++◌, Some, slice_index, refl, sym, ◌∙◌, ap, subst, arith}
use Rattle.scc_base.specs.Calls.{DataCall, Bar}
use Rattle.scc_base.specs.Places.{WordAt, line_of_word}
use Rattle.scc_base.specs.Setups.{IsSetup}
use Rattle.scc_base.specs.declared.events.Spot.TheVariants.{Flag}
use Rattle.scc_base.specs.declared.events.Turn.TheVariants as turn
use Rattle.scc_proto.specs.Stages.{Idle, Record}
use Rattle.scc_proto.specs.Ports.{Sight, record_in}
use Rattle.scc_proto.proofs.PortLaws.{record_did, seat_kept}
use Rattle.put_get.specs.Accesses.{loads_of}
use Rattle.put_get.specs.Cores.{Private}
use Rattle.put_get.proofs.FillLemmas.{fills_out}
use Rattle.barrier.specs.declared.stages.BarStage.{BarStage}
use Rattle.barrier.specs.declared.stages.BarStage.TheVariants.{Await, Finished}
use Rattle.barrier.specs.Flags.{value_at, release_word}
use Rattle.barrier.specs.Stages.{BarAt, BarStands, IsAtStage, barrier_aim_at, is_gather, meeting}
use Rattle.sync_flags.specs.Flags.{flag_value}
use Rattle.sync_flags.specs.Tries.{AtWord}
use Rattle.sync_flags.specs.Looks.{LooksAt}
use Rattle.barrier.specs.Turns.{Does, BarTurned, flips_by}
use Rattle.barrier.proofs.FlagLoads.{present_is, member_follows, InBarrier, InNone, release_line, release_found, release_failed, line_loaded}
use Rattle.barrier.proofs.LookLemmas.{loads_no_draft, failed_look, fruitful_look}
use Rattle.barrier.proofs.StageLemmas.{stands_next, rest_kept, parity_kept, call_of_stage}
use Rattle.barrier.proofs.GatherTurn.{look_here}

-- a member waits for its release
pub record Awaiting (s : Sight) (c : Private) (op : BarAt) (values : List Bool) (value : ℕ) : Type 0 where
  pub stands : BarStands s c op values
  pub stage : op.stage ≡ Await
  pub valid : IsSetup s.seat.setup
  pub below : s.seat.rank < s.seat.setup.nue
  pub waits_for : value ≡ flag_value (value_at values op.comm)

pub awaiting : {s : Sight} {c : Private} {op : BarAt} {values : List Bool} → BarStands s c op values → (value k own : ℕ) → op.stage ≡ Await
    → IsSetup s.seat.setup → own ≡ s.seat.rank → own < s.seat.setup.nue → k ≡ op.comm → value ≡ flag_value (value_at values k)
    → Awaiting s c op values value
awaiting {s} {values = values} st value k own stage valid b below e v = record {
  stands = st;
  stage = stage;
  valid = valid;
  below = subst (λ (x : ℕ). x < s.seat.setup.nue) b below;
  waits_for = v ∙ ap (λ (x : ℕ). flag_value (value_at values x)) e;
}

module _ (s : Sight) (c : Private) (op : BarAt) (values : List Bool) (value : ℕ) (l : Awaiting s c op values value)
    (t : Sight) (d : Private) (found : ℕ) (saw : LooksAt s c (release_word s.seat op.comm s.seat.rank) found t d) where
  here : IsAtStage s.seat (record_in s) op.comm Await
  here = subst (λ (x : BarStage). IsAtStage s.seat (record_in s) op.comm x) l.stage l.stands.at

  wanted : value ≡ (record_in s).flips op.comm % 2
  wanted = l.waits_for ∙ l.stands.parity op.comm l.stands.below

  found_record : slice_index saw.words (op.comm / 8) ≡ value → record_in t ≡ record (record_in s) { stage = Idle; calls = (record_in s).calls ++ Bar op.comm ∷ [] }
  found_record eq =
      let small = l.stands.below in
      let low : op.comm / 8 < 2 = omega (arith, small) in
      let late = record (record_in s) { stage = Idle; calls = (record_in s).calls ++ Bar op.comm ∷ [] } in
      let present = present_is s.seat.setup op.comm small l.stands.present in
      let own = release_found s.seat (record_in s) l.valid op.comm (slice_index saw.words (op.comm / 8)) present l.below
      (member_follows s.seat.setup op.comm s.seat.rank here.0) here.1 (eq ∙ wanted) in
      record_did s (loads_of (line_of_word (release_word s.seat op.comm s.seat.rank)) saw.words) t saw.looks.did
      ∙ line_loaded s.seat (record_in s) late (line_of_word (release_word s.seat op.comm s.seat.rank)) saw.words (op.comm / 8) low own
      (release_line s.seat (record_in s) l.valid op.comm s.seat.rank small l.below (InBarrier 0 0 here.1))
      (release_line s.seat late l.valid op.comm s.seat.rank small l.below (InNone refl))

  failed_record : slice_index saw.words (op.comm / 8) ≢ value → record_in t ≡ record_in s
  failed_record other =
      let small = l.stands.below in
      let low : op.comm / 8 < 2 = omega (arith, small) in
      let present = present_is s.seat.setup op.comm small l.stands.present in
      let own = release_failed s.seat (record_in s) l.valid op.comm (slice_index saw.words (op.comm / 8)) present l.below
      (member_follows s.seat.setup op.comm s.seat.rank here.0) here.1 (λ q. other (q ∙ sym wanted)) in
      let line = release_line s.seat (record_in s) l.valid op.comm s.seat.rank small l.below (InBarrier 0 0 here.1) in
      record_did s (loads_of (line_of_word (release_word s.seat op.comm s.seat.rank)) saw.words) t saw.looks.did
      ∙ line_loaded s.seat (record_in s) (record_in s) (line_of_word (release_word s.seat op.comm s.seat.rank)) saw.words (op.comm / 8) low own line line

  does_look : Does s.seat op.comm op.stage (flag_value (value_at values op.comm)) s c t d
  does_look = subst (λ (x : BarStage). Does s.seat op.comm x (flag_value (value_at values op.comm)) s c t d) (sym l.stage) (found, saw)

  aims : barrier_aim_at s.seat op.comm op.stage (flag_value (value_at values op.comm)) ≡ Some (AtWord (release_word s.seat op.comm s.seat.rank) (flag_value (value_at values op.comm)))
  aims = ap (λ (x : BarStage). barrier_aim_at s.seat op.comm x (flag_value (value_at values op.comm))) l.stage

  seat_same : t.seat ≡ s.seat
  seat_same = seat_kept s (loads_of (line_of_word (release_word s.seat op.comm s.seat.rank)) saw.words) t saw.looks.did

  await_waited : slice_index saw.words (op.comm / 8) ≢ value → BarStands t d op values × BarTurned (meeting s c op values) (meeting t d op values) (turn.Waiting (Flag (release_word s.seat op.comm s.seat.rank) 0))
  await_waited other =
      let small = l.stands.below in
      let rec = failed_record other in
      let flips = ap (λ (r : Record). r.flips) rec in
      let low : op.comm / 8 < 4 = omega (arith, small) in (
        stands_next l.stands t d op values seat_same (fills_out saw.looks.fills) refl (parity_kept (record_in s) (record_in t) values l.stands.parity flips)
            (subst (λ (r : Record). IsAtStage s.seat r op.comm op.stage) (sym rec) l.stands.at),
        record {
          events = loads_of (line_of_word (release_word s.seat op.comm s.seat.rank)) saw.words;
          did = saw.looks.did;
          does = does_look;
          tried = failed_look (release_word s.seat op.comm s.seat.rank) (flag_value (value_at values op.comm)) saw.words low (λ q. other (q ∙ sym l.waits_for)) aims;
          same = refl;
          means = (refl, rec);
          flips = flips ∙ ap (λ (x : BarStage). flips_by op.comm x (record_in s).flips) (sym l.stage);
          rest = rest_kept (record_in s).stage (record_in s).flips (record_in s).calls rec;
          no_draft = loads_no_draft s.seat.setup (line_of_word (release_word s.seat op.comm s.seat.rank)) saw.words;
        },
      )

  await_saw : (now : BarAt) → now.comm ≡ op.comm → now.stage ≡ Finished → slice_index saw.words (op.comm / 8) ≡ value
      → BarStands t d now values × BarTurned (meeting s c op values) (meeting t d now values) turn.Done
  await_saw now comm stage eq =
      let small = l.stands.below in
      let rec = found_record eq in
      let flips = ap (λ (r : Record). r.flips) rec in
      let low : op.comm / 8 < 4 = omega (arith, small) in (
        stands_next l.stands t d now values seat_same (fills_out saw.looks.fills) comm (parity_kept (record_in s) (record_in t) values l.stands.parity flips)
            (subst (λ (x : BarStage). IsAtStage s.seat (record_in t) op.comm x) (sym stage) (ap (λ (r : Record). r.stage) rec)),
        record {
          events = loads_of (line_of_word (release_word s.seat op.comm s.seat.rank)) saw.words;
          did = saw.looks.did;
          does = does_look;
          tried = fruitful_look (release_word s.seat op.comm s.seat.rank) (flag_value (value_at values op.comm)) saw.words low (eq ∙ l.waits_for) aims;
          same = comm;
          means = (stage, ap (λ (r : Record). r.calls) rec ∙ ap (λ (cs : List DataCall). (record_in s).calls ++ cs) (sym (call_of_stage op Await l.stage refl)), ap is_gather l.stage);
          flips = flips ∙ ap (λ (x : BarStage). flips_by op.comm x (record_in s).flips) (sym l.stage);
          rest = rest_kept Idle (record_in s).flips ((record_in s).calls ++ Bar op.comm ∷ []) rec;
          no_draft = loads_no_draft s.seat.setup (line_of_word (release_word s.seat op.comm s.seat.rank)) saw.words;
        },
      )

pub await_waits : {s t : Sight} {c d : Private} {op : BarAt} {values : List Bool} {value : ℕ} → Awaiting s c op values value → (k own : ℕ) → k ≡ op.comm → own ≡ s.seat.rank
    → (place : WordAt) → place ≡ release_word s.seat k own → (got : ℕ) → LooksAt s c place got t d → got ≢ value
    → BarStands t d op values × BarTurned (meeting s c op values) (meeting t d op values) (turn.Waiting (Flag place 0))
await_waits {s} {t} {c} {d} {op} {values} {value} l k own e r place at got saw other =
    let there = at ∙ (λ i. release_word s.seat (e i) (r i)) in
    let h = look_here (release_word s.seat op.comm s.seat.rank) got there saw in
    subst (λ (p : WordAt). BarStands t d op values × BarTurned (meeting s c op values) (meeting t d op values) (turn.Waiting (Flag p 0))) (sym there)
    (await_waited s c op values value l t d got h (λ q. other (h.is ∙ q)))

pub await_sees : {s t : Sight} {c d : Private} {op : BarAt} {values : List Bool} {value : ℕ} → Awaiting s c op values value → (k own : ℕ) → k ≡ op.comm → own ≡ s.seat.rank
    → (place : WordAt) → place ≡ release_word s.seat k own → (got : ℕ) → LooksAt s c place got t d → got ≡ value
    → (now : BarAt) → now.comm ≡ op.comm → now.stage ≡ Finished
    → BarStands t d now values × BarTurned (meeting s c op values) (meeting t d now values) turn.Done
await_sees {s} {t} {c} {d} {op} {values} {value} l k own e r place at got saw eq now comm stage =
    let there = at ∙ (λ i. release_word s.seat (e i) (r i)) in
    let h = look_here (release_word s.seat op.comm s.seat.rank) got there saw in
    await_saw s c op values value l t d got h now comm stage (sym h.is ∙ eq)
