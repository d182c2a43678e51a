-- The root writes the release flag of its next member.
use Rattle.std.proofs.Common.{◌≡◌, ◌≢◌, ℕ, suc, ◌+◌, ◌-◌, ◌%◌, ◌<◌, Bool, true, false, ◌&&◌, ◌||◌, ◌==◌, if◌then◌else◌, List, [], ◌∷◌, ◌++◌, refl, sym, ◌∙◌, ap, subst, arith}
use Rattle.std.specs.List.{list_any}
use Rattle.scc_base.specs.Calls.{DataCall, Bar}
use Rattle.scc_base.specs.Places.{WordAt}
use Rattle.scc_base.specs.Setups.{IsSetup, IsMemberAt, place_of}
use Rattle.scc_base.specs.Events.{store_of}
use Rattle.scc_base.specs.declared.events.Turn.TheVariants as turn
use Rattle.scc_proto.specs.Stages.{Stage, Idle, Barrier, Record}
use Rattle.scc_proto.specs.Moves.{WriteRelease, write_release, calls_released, after}
use Rattle.scc_proto.specs.Permission.{may_release}
use Rattle.scc_proto.specs.Records.{chunk_of, last_of}
use Rattle.scc_proto.specs.Ports.{Sight, MayMake, record_in}
use Rattle.scc_proto.proofs.PortLaws.{record_did_one, seat_kept}
use Rattle.scc_proto.proofs.Tests.{eqb_same, eqb_other}
use Rattle.scc_proto.proofs.Layouts.Roles.{if_yes, if_no, role_release}
use Rattle.scc_proto.proofs.Layouts.PlaceMoves.{Makes, release_stored}
use Rattle.put_get.specs.Cores.{Private}
use Rattle.barrier.specs.declared.stages.BarStage.{BarStage}
use Rattle.barrier.specs.declared.stages.BarStage.TheVariants.{Release, Finished}
use Rattle.barrier.specs.Flags.{value_at, member_at, release_word}
use Rattle.barrier.specs.Stages.{BarAt, BarStands, IsAtStage, barrier_aim_at, group_size, is_bar_finished, is_gather, after_release, meeting}
use Rattle.sync_flags.specs.Flags.{flag_value}
use Rattle.sync_flags.specs.Tries.{NoTry}
use Rattle.sync_flags.specs.Writes.{StoresWord}
use Rattle.scc_proto.specs.Drafts.{is_message_word, is_draft}
use Rattle.barrier.specs.Turns.{Does, BarTurned, flips_by}
use Rattle.barrier.proofs.FlagLoads.{present_is, root_leads, makes_kept}
use Rattle.barrier.proofs.StageLemmas.{stands_next, same_by, last_is, rest_kept, parity_kept, left_is, call_of_stage}

-- the root of a group releases this member
pub record Releasing (s : Sight) (c : Private) (op : BarAt) (values : List Bool) (released m value : ℕ) : Type 0 where
  pub stands : BarStands s c op values
  pub stage : op.stage ≡ Release released
  pub valid : IsSetup s.seat.setup
  pub is : m ≡ member_at s.seat.setup op.comm s.seat.rank (released + 1)
  pub member : IsMemberAt s.seat.setup op.comm s.seat.rank (released + 1) m
  pub waits_for : value ≡ flag_value (value_at values op.comm)

pub releasing : {s : Sight} {c : Private} {op : BarAt} {values : List Bool} → BarStands s c op values → (released m value k : ℕ) → op.stage ≡ Release released
    → IsSetup s.seat.setup → k ≡ op.comm
    → m ≡ member_at s.seat.setup k s.seat.rank (released + 1) → IsMemberAt s.seat.setup k s.seat.rank (released + 1) m → value ≡ flag_value (value_at values k)
    → Releasing s c op values released m value
releasing {s} {values = values} st released m value k stage valid e is member v = record {
  stands = st;
  stage = stage;
  valid = valid;
  is = is ∙ ap (λ (x : ℕ). member_at s.seat.setup x s.seat.rank (released + 1)) e;
  member = subst (λ (x : ℕ). IsMemberAt s.seat.setup x s.seat.rank (released + 1) m) e member;
  waits_for = v ∙ ap (λ (x : ℕ). flag_value (value_at values x)) e;
}

-- the record after the member was released, which may have been the last one
abbrev pub after_one : Record → (comm size released : ℕ) → Bool → Record
after_one rec comm size released last = record rec {
  stage = if last then Idle else Barrier comm (size - 1) (suc released);
  calls = if last then rec.calls ++ Bar comm ∷ [] else rec.calls;
}

module _ (s : Sight) (c : Private) (op : BarAt) (values : List Bool) (released m value : ℕ) (l : Releasing s c op values released m value) where
  here : IsAtStage s.seat (record_in s) op.comm (Release released)
  here = subst (λ (x : BarStage). IsAtStage s.seat (record_in s) op.comm x) l.stage l.stands.at

  wanted : value ≡ (record_in s).flips op.comm % 2
  wanted = l.waits_for ∙ l.stands.parity op.comm l.stands.below

  permitted : may_release op.comm (place_of s.seat.setup op.comm m) value (last_of s.seat.setup op.comm s.seat.rank) ((record_in s).flips op.comm % 2) (record_in s).stage ≡ true
  permitted =
      let placed = l.member.placed in
      let next : place_of s.seat.setup op.comm m ≡ suc released = omega (arith, placed) in
      ap (λ (x : Stage). may_release op.comm (place_of s.seat.setup op.comm m) value (last_of s.seat.setup op.comm s.seat.rank) ((record_in s).flips op.comm % 2) x) here.2
      ∙ (λ i. eqb_same op.comm i && (eqb_same (group_size s.seat op.comm - 1) i && (same_by (place_of s.seat.setup op.comm m) (suc released) next i && same_by value ((record_in s).flips op.comm % 2) wanted i)))

  stored : Makes s.seat (record_in s) (store_of (release_word s.seat op.comm m) value)
      (after (chunk_of s.seat.setup) (WriteRelease op.comm m (place_of s.seat.setup op.comm m) value (last_of s.seat.setup op.comm s.seat.rank)) (record_in s))
  stored = release_stored s.seat (record_in s) l.valid op.comm m value (present_is s.seat.setup op.comm l.stands.below l.stands.present) l.member.below
      (root_leads s.seat.setup op.comm s.seat.rank (released + 1) m l.member here.0) permitted

  released_by : (b : Bool) → (released + 2 == group_size s.seat op.comm) ≡ b
      → Makes s.seat (record_in s) (store_of (release_word s.seat op.comm m) value) (after_one (record_in s) op.comm (group_size s.seat op.comm) released b)
  released_by b e =
      let last = last_is (group_size s.seat op.comm) released b here.1 e in
      let stage = ap (λ (x : Stage). write_release (group_size s.seat op.comm - 1) x) here.2
      ∙ (λ i. if last i then Idle else Barrier op.comm (group_size s.seat op.comm - 1) (suc released)) in
      let calls = ap (λ (x : Stage). calls_released (group_size s.seat op.comm - 1) x (record_in s).calls) here.2
      ∙ (λ i. if last i then (record_in s).calls ++ Bar op.comm ∷ [] else (record_in s).calls) in
      makes_kept stored (λ i. record (record_in s) { stage = stage i; calls = calls i })

  module _ (t : Sight) (d : Private) (stores : StoresWord s c (release_word s.seat op.comm m) value t d) where
    late_is : (b : Bool) → (released + 2 == group_size s.seat op.comm) ≡ b → record_in t ≡ after_one (record_in s) op.comm (group_size s.seat op.comm) released b
    late_is b e = record_did_one s (store_of (release_word s.seat op.comm m) value) t stores.did ∙ (released_by b e).becomes

    does_store : Does s.seat op.comm op.stage (flag_value (value_at values op.comm)) s c t d
    does_store = subst (λ (x : BarStage). Does s.seat op.comm x (flag_value (value_at values op.comm)) s c t d) (sym l.stage)
        (subst (λ (x : ℕ). StoresWord s c (release_word s.seat op.comm x) (flag_value (value_at values op.comm)) t d) l.is
        (subst (λ (x : ℕ). StoresWord s c (release_word s.seat op.comm m) x t d) l.waits_for stores))

    no_draft_here : list_any (is_draft s.seat.setup) (store_of (release_word s.seat op.comm m) value ∷ []) ≡ false
    no_draft_here = λ i. is_message_word (role_release s.seat.setup l.valid op.comm m (present_is s.seat.setup op.comm l.stands.below l.stands.present) l.member.below i) || false

    out_same : d.out ≡ c.out
    out_same = ap (λ (x : Private). x.out) stores.is

    seat_same : t.seat ≡ s.seat
    seat_same = seat_kept s (store_of (release_word s.seat op.comm m) value ∷ []) t stores.did

    released_last : (now : BarAt) → now.comm ≡ op.comm → now.stage ≡ after_release (group_size s.seat op.comm) released → released + 2 ≡ group_size s.seat op.comm
        → BarStands t d now values × BarTurned (meeting s c op values) (meeting t d now values) turn.Done
    released_last now comm stage size =
        let e = same_by (released + 2) (group_size s.seat op.comm) size in
        let rec = late_is true e in
        let flips = ap (λ (r : Record). r.flips) rec in
        let end = stage ∙ if_yes (released + 2 == group_size s.seat op.comm) Finished (Release (released + 1)) e in (
          stands_next l.stands t d now values seat_same out_same comm (parity_kept (record_in s) (record_in t) values l.stands.parity flips)
              (subst (λ (x : BarStage). IsAtStage s.seat (record_in t) op.comm x) (sym end) (ap (λ (r : Record). r.stage) rec)),
          record {
            events = store_of (release_word s.seat op.comm m) value ∷ [];
            did = stores.did;
            does = does_store;
            tried = NoTry (ap (λ (x : BarStage). barrier_aim_at s.seat op.comm x (flag_value (value_at values op.comm))) l.stage) refl;
            same = comm;
            means = (end, ap (λ (r : Record). r.calls) rec ∙ ap (λ (cs : List DataCall). (record_in s).calls ++ cs) (sym (call_of_stage op (Release released) l.stage refl)), ap is_gather l.stage);
            flips = flips ∙ ap (λ (x : BarStage). flips_by op.comm x (record_in s).flips) (sym l.stage);
            rest = rest_kept Idle (record_in s).flips ((record_in s).calls ++ Bar op.comm ∷ []) rec;
            no_draft = no_draft_here;
          },
        )

    released_more : (now : BarAt) → now.comm ≡ op.comm → now.stage ≡ after_release (group_size s.seat op.comm) released → released + 2 ≢ group_size s.seat op.comm
        → BarStands t d now values × BarTurned (meeting s c op values) (meeting t d now values) turn.Moved
    released_more now comm stage size =
        let fits = here.1 in
        let more : released + 2 < group_size s.seat op.comm = omega (arith, size, fits) in
        let one : suc released ≡ released + 1 = omega arith in
        let e = eqb_other (released + 2) (group_size s.seat op.comm) size in
        let rec = late_is false e in
        let flips = ap (λ (r : Record). r.flips) rec in
        let next = stage ∙ if_no (released + 2 == group_size s.seat op.comm) Finished (Release (released + 1)) e in (
          stands_next l.stands t d now values seat_same out_same comm (parity_kept (record_in s) (record_in t) values l.stands.parity flips)
              (subst (λ (x : BarStage). IsAtStage s.seat (record_in t) op.comm x) (sym next)
              (here.0, omega (arith, more), ap (λ (r : Record). r.stage) rec ∙ (λ i. Barrier op.comm (group_size s.seat op.comm - 1) (one i)))),
          record {
            events = store_of (release_word s.seat op.comm m) value ∷ [];
            did = stores.did;
            does = does_store;
            tried = NoTry (ap (λ (x : BarStage). barrier_aim_at s.seat op.comm x (flag_value (value_at values op.comm))) l.stage) refl;
            same = comm;
            means = (
              left_is s.seat op now (Release released) (Release (released + 1)) comm l.stage next (omega (arith, more)),
              ap (λ (r : Record). r.calls) rec,
              ap is_bar_finished l.stage,
              ap is_bar_finished next,
            );
            flips = flips ∙ ap (λ (x : BarStage). flips_by op.comm x (record_in s).flips) (sym l.stage);
            rest = rest_kept (Barrier op.comm (group_size s.seat op.comm - 1) (suc released)) (record_in s).flips (record_in s).calls rec;
            no_draft = no_draft_here;
          },
        )

pub release_may : {s : Sight} {c : Private} {op : BarAt} {values : List Bool} {released m value : ℕ} → Releasing s c op values released m value → (k : ℕ) → k ≡ op.comm
    → (place : WordAt) → place ≡ release_word s.seat k m → MayMake s.seat (record_in s) (store_of place value)
release_may {s} {c} {op} {values} {released} {m} {value} l k e place at =
    subst (λ (p : WordAt). MayMake s.seat (record_in s) (store_of p value)) (sym (at ∙ ap (λ (x : ℕ). release_word s.seat x m) e))
    (stored s c op values released m value l).may

pub release_ends : {s t : Sight} {c d : Private} {op : BarAt} {values : List Bool} {released m value : ℕ} → Releasing s c op values released m value → (k : ℕ) → k ≡ op.comm
    → (place : WordAt) → place ≡ release_word s.seat k m → StoresWord s c place value t d
    → (now : BarAt) → now.comm ≡ op.comm → (size : ℕ) → size ≡ group_size s.seat op.comm → now.stage ≡ after_release size released → released + 2 ≡ size
    → BarStands t d now values × BarTurned (meeting s c op values) (meeting t d now values) turn.Done
release_ends {s} {t} {c} {d} {op} {values} {released} {m} {value} l k e place at stores now comm size sized stage fits =
    released_last s c op values released m value l t d
    (subst (λ (p : WordAt). StoresWord s c p value t d) (at ∙ ap (λ (x : ℕ). release_word s.seat x m) e) stores)
    now comm (stage ∙ ap (λ (n : ℕ). after_release n released) sized) (fits ∙ sized)

pub release_goes : {s t : Sight} {c d : Private} {op : BarAt} {values : List Bool} {released m value : ℕ} → Releasing s c op values released m value → (k : ℕ) → k ≡ op.comm
    → (place : WordAt) → place ≡ release_word s.seat k m → StoresWord s c place value t d
    → (now : BarAt) → now.comm ≡ op.comm → (size : ℕ) → size ≡ group_size s.seat op.comm → now.stage ≡ after_release size released → released + 2 ≢ size
    → BarStands t d now values × BarTurned (meeting s c op values) (meeting t d now values) turn.Moved
release_goes {s} {t} {c} {d} {op} {values} {released} {m} {value} l k e place at stores now comm size sized stage fits =
    released_more s c op values released m value l t d
    (subst (λ (p : WordAt). StoresWord s c p value t d) (at ∙ ap (λ (x : ℕ). release_word s.seat x m) e) stores)
    now comm (stage ∙ ap (λ (n : ℕ). after_release n released) sized) (λ q. fits (q ∙ sym sized))
