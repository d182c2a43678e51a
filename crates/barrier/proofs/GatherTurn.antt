-- The root looks at the gather flag of its next member.
use Rattle.std.proofs.Common.{◌≡◌, ◌≢◌, ℕ, ◌+◌, ◌/◌, ◌%◌, ◌<◌, Bool, List, Some, slice_index, refl, sym, ◌∙◌, ap, subst, arith}
use Rattle.scc_base.specs.Places.{WordAt, line_of_word}
use Rattle.scc_base.specs.Setups.{IsSetup, IsMemberAt}
use Rattle.scc_base.specs.declared.events.Spot.TheVariants.{Flag}
use Rattle.scc_base.specs.declared.events.Turn.TheVariants as turn
use Rattle.scc_proto.specs.Stages.{Barrier, Record}
use Rattle.scc_proto.specs.Ports.{Sight, record_in}
use Rattle.scc_proto.proofs.PortLaws.{record_did, seat_kept}
use Rattle.put_get.specs.Accesses.{loads_of}
use Rattle.put_get.specs.Cores.{Private}
use Rattle.put_get.proofs.FillLemmas.{fills_out}
use Rattle.barrier.specs.declared.stages.BarStage.{BarStage}
use Rattle.barrier.specs.declared.stages.BarStage.TheVariants.{Gather}
use Rattle.barrier.specs.Flags.{value_at, member_at, gather_word}
use Rattle.barrier.specs.Stages.{BarAt, BarStands, IsAtStage, barrier_aim_at, group_size, is_bar_finished, after_member_seen, meeting}
use Rattle.sync_flags.specs.Flags.{flag_value}
use Rattle.sync_flags.specs.Tries.{AtWord}
use Rattle.sync_flags.specs.Looks.{LooksAt}
use Rattle.barrier.specs.Turns.{Does, BarTurned, flips_by}
use Rattle.barrier.proofs.FlagLoads.{present_is, root_leads, InBarrier, gather_line, gather_found, gather_failed, line_loaded}
use Rattle.barrier.proofs.LookLemmas.{loads_no_draft, failed_look, fruitful_look}
use Rattle.barrier.proofs.StageLemmas.{stands_next, gather_next, rest_kept, parity_kept, left_is}

-- the root of a group looks at this member
pub record Looking (s : Sight) (c : Private) (op : BarAt) (values : List Bool) (seen m value : ℕ) : Type 0 where
  pub stands : BarStands s c op values
  pub stage : op.stage ≡ Gather seen
  pub valid : IsSetup s.seat.setup
  pub below : s.seat.rank < s.seat.setup.nue
  pub is : m ≡ member_at s.seat.setup op.comm s.seat.rank (seen + 1)
  pub member : IsMemberAt s.seat.setup op.comm s.seat.rank (seen + 1) m
  pub waits_for : value ≡ flag_value (value_at values op.comm)

pub looking : {s : Sight} {c : Private} {op : BarAt} {values : List Bool} → BarStands s c op values → (seen m value k own : ℕ) → op.stage ≡ Gather seen
    → IsSetup s.seat.setup → own ≡ s.seat.rank → own < s.seat.setup.nue → k ≡ op.comm
    → m ≡ member_at s.seat.setup k s.seat.rank (seen + 1) → IsMemberAt s.seat.setup k s.seat.rank (seen + 1) m → value ≡ flag_value (value_at values k)
    → Looking s c op values seen m value
looking {s} {values = values} st seen m value k own stage valid b below e is member v = record {
  stands = st;
  stage = stage;
  valid = valid;
  below = subst (λ (x : ℕ). x < s.seat.setup.nue) b below;
  is = is ∙ ap (λ (x : ℕ). member_at s.seat.setup x s.seat.rank (seen + 1)) e;
  member = subst (λ (x : ℕ). IsMemberAt s.seat.setup x s.seat.rank (seen + 1) m) e member;
  waits_for = v ∙ ap (λ (x : ℕ). flag_value (value_at values x)) e;
}

module _ (s : Sight) (c : Private) (op : BarAt) (values : List Bool) (seen m value : ℕ) (l : Looking s c op values seen m value)
    (t : Sight) (d : Private) (found : ℕ) (saw : LooksAt s c (gather_word s.seat op.comm m) found t d) where
  here : IsAtStage s.seat (record_in s) op.comm (Gather seen)
  here = subst (λ (x : BarStage). IsAtStage s.seat (record_in s) op.comm x) l.stage l.stands.at

  wanted : value ≡ (record_in s).flips op.comm % 2
  wanted = l.waits_for ∙ l.stands.parity op.comm l.stands.below

  found_record : slice_index saw.words (op.comm / 8) ≡ value → record_in t ≡ record (record_in s) { stage = Barrier op.comm (seen + 1) 0 }
  found_record eq =
      let small = l.stands.below in
      let low : op.comm / 8 < 2 = omega (arith, small) in
      let late = record (record_in s) { stage = Barrier op.comm (seen + 1) 0 } in
      let present = present_is s.seat.setup op.comm small l.stands.present in
      let own = gather_found s.seat (record_in s) l.valid op.comm m seen (slice_index saw.words (op.comm / 8)) present l.member.below
      (root_leads s.seat.setup op.comm s.seat.rank (seen + 1) m l.member here.0) l.member.placed here.2 (eq ∙ wanted) in
      record_did s (loads_of (line_of_word (gather_word s.seat op.comm m)) saw.words) t saw.looks.did
      ∙ line_loaded s.seat (record_in s) late (line_of_word (gather_word s.seat op.comm m)) saw.words (op.comm / 8) low own
      (gather_line s.seat (record_in s) l.valid op.comm m small l.member.below (InBarrier seen 0 here.2))
      (gather_line s.seat late l.valid op.comm m small l.member.below (InBarrier (seen + 1) 0 refl))

  failed_record : slice_index saw.words (op.comm / 8) ≢ value → record_in t ≡ record_in s
  failed_record other =
      let small = l.stands.below in
      let low : op.comm / 8 < 2 = omega (arith, small) in
      let present = present_is s.seat.setup op.comm small l.stands.present in
      let own = gather_failed s.seat (record_in s) l.valid op.comm m seen (slice_index saw.words (op.comm / 8)) present l.member.below
      (root_leads s.seat.setup op.comm s.seat.rank (seen + 1) m l.member here.0) l.member.placed here.2 (λ q. other (q ∙ sym wanted)) in
      let line = gather_line s.seat (record_in s) l.valid op.comm m small l.member.below (InBarrier seen 0 here.2) in
      record_did s (loads_of (line_of_word (gather_word s.seat op.comm m)) saw.words) t saw.looks.did
      ∙ line_loaded s.seat (record_in s) (record_in s) (line_of_word (gather_word s.seat op.comm m)) saw.words (op.comm / 8) low own line line

  does_look : Does s.seat op.comm op.stage (flag_value (value_at values op.comm)) s c t d
  does_look = subst (λ (x : BarStage). Does s.seat op.comm x (flag_value (value_at values op.comm)) s c t d) (sym l.stage)
      (found, subst (λ (x : ℕ). LooksAt s c (gather_word s.seat op.comm x) found t d) l.is saw)

  aims : barrier_aim_at s.seat op.comm op.stage (flag_value (value_at values op.comm)) ≡ Some (AtWord (gather_word s.seat op.comm m) (flag_value (value_at values op.comm)))
  aims = ap (λ (x : BarStage). barrier_aim_at s.seat op.comm x (flag_value (value_at values op.comm))) l.stage
      ∙ ap (λ (x : ℕ). Some (AtWord (gather_word s.seat op.comm x) (flag_value (value_at values op.comm)))) (sym l.is)

  seat_same : t.seat ≡ s.seat
  seat_same = seat_kept s (loads_of (line_of_word (gather_word s.seat op.comm m)) saw.words) t saw.looks.did

  gather_waited : slice_index saw.words (op.comm / 8) ≢ value → BarStands t d op values × BarTurned (meeting s c op values) (meeting t d op values) (turn.Waiting (Flag (gather_word s.seat op.comm m) 0))
  gather_waited other =
      let small = l.stands.below in
      let rec = failed_record other in
      let flips = ap (λ (r : Record). r.flips) rec in
      let low : op.comm / 8 < 4 = omega (arith, small) in (
        stands_next l.stands t d op values seat_same (fills_out saw.looks.fills) refl (parity_kept (record_in s) (record_in t) values l.stands.parity flips)
            (subst (λ (r : Record). IsAtStage s.seat r op.comm op.stage) (sym rec) l.stands.at),
        record {
          events = loads_of (line_of_word (gather_word s.seat op.comm m)) saw.words;
          did = saw.looks.did;
          does = does_look;
          tried = failed_look (gather_word s.seat op.comm m) (flag_value (value_at values op.comm)) saw.words low (λ q. other (q ∙ sym l.waits_for)) aims;
          same = refl;
          means = (refl, rec);
          flips = flips ∙ ap (λ (x : BarStage). flips_by op.comm x (record_in s).flips) (sym l.stage);
          rest = rest_kept (record_in s).stage (record_in s).flips (record_in s).calls rec;
          no_draft = loads_no_draft s.seat.setup (line_of_word (gather_word s.seat op.comm m)) saw.words;
        },
      )

  gather_saw : (now : BarAt) → now.comm ≡ op.comm → now.stage ≡ after_member_seen (group_size s.seat op.comm) seen → slice_index saw.words (op.comm / 8) ≡ value
      → BarStands t d now values × BarTurned (meeting s c op values) (meeting t d now values) turn.Moved
  gather_saw now comm stage eq =
      let small = l.stands.below in
      let rec = found_record eq in
      let flips = ap (λ (r : Record). r.flips) rec in
      let next = gather_next s.seat (record_in t) op.comm seen here.0 here.1 (ap (λ (r : Record). r.stage) rec) in
      let low : op.comm / 8 < 4 = omega (arith, small) in (
        stands_next l.stands t d now values seat_same (fills_out saw.looks.fills) comm (parity_kept (record_in s) (record_in t) values l.stands.parity flips)
            (subst (λ (x : BarStage). IsAtStage s.seat (record_in t) op.comm x) (sym stage) next.at),
        record {
          events = loads_of (line_of_word (gather_word s.seat op.comm m)) saw.words;
          did = saw.looks.did;
          does = does_look;
          tried = fruitful_look (gather_word s.seat op.comm m) (flag_value (value_at values op.comm)) saw.words low (eq ∙ l.waits_for) aims;
          same = comm;
          means = (
            left_is s.seat op now (Gather seen) (after_member_seen (group_size s.seat op.comm) seen) comm l.stage stage next.left,
            ap (λ (r : Record). r.calls) rec,
            ap is_bar_finished l.stage,
            ap is_bar_finished stage ∙ next.goes,
          );
          flips = flips ∙ ap (λ (x : BarStage). flips_by op.comm x (record_in s).flips) (sym l.stage);
          rest = rest_kept (Barrier op.comm (seen + 1) 0) (record_in s).flips (record_in s).calls rec;
          no_draft = loads_no_draft s.seat.setup (line_of_word (gather_word s.seat op.comm m)) saw.words;
        },
      )

-- the look, at the place that the code has
pub look_here : {s t : Sight} {c d : Private} {place : WordAt} (to : WordAt) (got : ℕ) → place ≡ to → LooksAt s c place got t d → LooksAt s c to got t d
look_here {s} {t} {c} {d} to got e h = subst (λ (p : WordAt). LooksAt s c p got t d) e h

pub gather_waits : {s t : Sight} {c d : Private} {op : BarAt} {values : List Bool} {seen m value : ℕ} → Looking s c op values seen m value → (k : ℕ) → k ≡ op.comm
    → (place : WordAt) → place ≡ gather_word s.seat k m → (got : ℕ) → LooksAt s c place got t d → got ≢ value
    → BarStands t d op values × BarTurned (meeting s c op values) (meeting t d op values) (turn.Waiting (Flag place 0))
gather_waits {s} {t} {c} {d} {op} {values} {seen} {m} {value} l k e place at got saw other =
    let there = at ∙ ap (λ (x : ℕ). gather_word s.seat x m) e in
    let h = look_here (gather_word s.seat op.comm m) got there saw in
    subst (λ (p : WordAt). BarStands t d op values × BarTurned (meeting s c op values) (meeting t d op values) (turn.Waiting (Flag p 0))) (sym there)
    (gather_waited s c op values seen m value l t d got h (λ q. other (h.is ∙ q)))

pub gather_sees : {s t : Sight} {c d : Private} {op : BarAt} {values : List Bool} {seen m value : ℕ} → Looking s c op values seen m value → (k : ℕ) → k ≡ op.comm
    → (place : WordAt) → place ≡ gather_word s.seat k m → (got : ℕ) → LooksAt s c place got t d → got ≡ value
    → (now : BarAt) → now.comm ≡ op.comm → (size : ℕ) → size ≡ group_size s.seat op.comm → now.stage ≡ after_member_seen size seen
    → BarStands t d now values × BarTurned (meeting s c op values) (meeting t d now values) turn.Moved
gather_sees {s} {t} {c} {d} {op} {values} {seen} {m} {value} l k e place at got saw eq now comm size sized stage =
    let there = at ∙ ap (λ (x : ℕ). gather_word s.seat x m) e in
    let h = look_here (gather_word s.seat op.comm m) got there saw in
    gather_saw s c op values seen m value l t d got h now comm (stage ∙ ap (λ (n : ℕ). after_member_seen n seen) sized) (sym h.is ∙ eq)
