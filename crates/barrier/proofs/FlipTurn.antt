-- A member enters the barrier by the flip of its gather flag.
use Rattle.std.proofs.Common.{◌≡◌, ◌≢◌, ℕ, suc, ◌-◌, ◌*◌, ◌%◌, ◌<◌, ◌≤◌, Bool, true, false, not, ◌&&◌, ◌||◌, ◌==◌, if◌then◌else◌, List, [], ◌∷◌, ◌++◌, refl, sym, ◌∙◌, ap, subst, arith}
use Rattle.std.specs.List.{list_any}
use Rattle.scc_base.specs.Calls.{DataCall, Bar}
use Rattle.scc_base.specs.Places.{WordAt}
use Rattle.scc_base.specs.Setups.{IsSetup, setup_key}
use Rattle.scc_base.specs.Events.{store_of}
use Rattle.scc_base.specs.declared.events.Turn.TheVariants as turn
use Rattle.scc_base.proofs.GroupFacts.{place_below}
use Rattle.scc_proto.specs.Tables.{table_with}
use Rattle.scc_proto.specs.Stages.{Stage, Idle, Barrier, Record}
use Rattle.scc_proto.specs.Moves.{FlipGather, flip_gather, after}
use Rattle.scc_proto.specs.Permission.{permits, is_idle}
use Rattle.scc_proto.specs.Records.{chunk_of, last_of}
use Rattle.scc_proto.specs.Ports.{Seat, Sight, MayMake, record_in}
use Rattle.scc_proto.proofs.PortLaws.{record_did_one, seat_kept}
use Rattle.scc_proto.proofs.Tests.{eqb_other, same_or_other, put_here, put_there, same_by_eqb}
use Rattle.scc_proto.proofs.Layouts.Roles.{if_yes, if_no, eq_not, role_gather}
use Rattle.scc_proto.proofs.Layouts.PlaceMoves.{Makes, gather_stored}
use Rattle.put_get.specs.Cores.{Private}
use Rattle.barrier.specs.declared.stages.BarStage.{BarStage}
use Rattle.barrier.specs.declared.stages.BarStage.TheVariants.{Flip, Gather, Await, Finished}
use Rattle.barrier.specs.Flags.{IsParityOf, value_at, gather_word}
use Rattle.barrier.specs.Stages.{BarAt, BarStands, IsAtStage, barrier_aim_at, group_size, own_place, is_bar_finished, is_gather, after_flip, meeting}
use Rattle.sync_flags.specs.Flags.{flag_value}
use Rattle.sync_flags.specs.Tries.{NoTry}
use Rattle.sync_flags.specs.Writes.{StoresWord}
use Rattle.scc_proto.specs.Drafts.{is_message_word, is_draft}
use Rattle.barrier.specs.Turns.{Does, BarTurned, flips_by}
use Rattle.barrier.proofs.FlagLoads.{present_is, makes_kept}
use Rattle.barrier.proofs.StageLemmas.{Next, stands_next, same_by, rest_kept, left_is, call_of_stage}

-- a flag that is flipped, as a word
other_value : (b : Bool) → flag_value (not b) ≡ 1 - flag_value b
other_value true = refl
other_value false = refl

next_value : (b : Bool) (n : ℕ) → flag_value b ≡ n % 2 → flag_value (not b) ≡ suc n % 2
next_value true n e = omega (arith, e)
next_value false n e = omega (arith, e)

-- the flag of this communicator was flipped among those of all
pub record IsFlipped (values later : List Bool) (comm : ℕ) : Type 0 where
  pub flipped : value_at later comm ≡ not (value_at values comm)
  pub others : (k : ℕ) → k ≢ comm → value_at later k ≡ value_at values k

flipped_parity : (rec new : Record) (values later : List Bool) (comm : ℕ) → comm < 16 → IsParityOf rec values → IsFlipped values later comm
    → new.flips ≡ table_with rec.flips comm (suc (rec.flips comm)) → IsParityOf new later
flipped_parity rec new values later comm small p f e k lt = same_or_other (flag_value (value_at later k) ≡ new.flips k % 2) k comm
    (λ t q. subst (λ (x : ℕ). flag_value (value_at later x) ≡ new.flips x % 2) (sym q)
    (ap flag_value f.flipped ∙ next_value (value_at values comm) (rec.flips comm) (p comm small)
    ∙ (λ i. sym (put_here rec.flips comm (suc (rec.flips comm))) i % 2) ∙ (λ i. sym e i comm % 2)))
    (λ t q. ap flag_value (f.others k q) ∙ p k lt ∙ (λ i. sym (put_there rec.flips comm (suc (rec.flips comm)) k q) i % 2) ∙ (λ i. sym e i k % 2))

-- what is known where a member flips its flag
pub record Flipping (s : Sight) (c : Private) (op : BarAt) (values later : List Bool) (value : ℕ) : Type 0 where
  pub stands : BarStands s c op values
  pub stage : op.stage ≡ Flip
  pub valid : IsSetup s.seat.setup
  pub below : s.seat.rank < s.seat.setup.nue
  pub flips : IsFlipped values later op.comm
  pub writes : value ≡ flag_value (value_at later op.comm)

pub flipping : {s : Sight} {c : Private} {op : BarAt} {values : List Bool} → BarStands s c op values → (later : List Bool) (value k own : ℕ) → op.stage ≡ Flip
    → IsSetup s.seat.setup → own ≡ s.seat.rank → own < s.seat.setup.nue → k ≡ op.comm
    → value_at later k ≡ not (value_at values k) → ((x : ℕ) → x ≢ k → value_at later x ≡ value_at values x) → value ≡ flag_value (value_at later k)
    → Flipping s c op values later value
flipping {s} {values = values} st later value k own stage valid b below e flipped others v = record {
  stands = st;
  stage = stage;
  valid = valid;
  below = subst (λ (x : ℕ). x < s.seat.setup.nue) b below;
  flips = subst (λ (x : ℕ). IsFlipped values later x) e (record { flipped = flipped; others = others });
  writes = v ∙ ap (λ (x : ℕ). flag_value (value_at later x)) e;
}

-- the record after the flip, where the group may have one member
abbrev pub after_one : Record → ℕ → Bool → Record
after_one rec comm alone = record rec {
  stage = if alone then Idle else Barrier comm 0 0;
  flips = table_with rec.flips comm (suc (rec.flips comm));
  calls = if alone then rec.calls ++ Bar comm ∷ [] else rec.calls;
}

flip_next : (seat : Seat) (rec : Record) (comm : ℕ) → 1 < group_size seat comm → rec.stage ≡ Barrier comm 0 0 → (b : Bool) → (own_place seat comm == 0) ≡ b
    → Next seat rec comm Flip (if b then Gather 0 else Await)
flip_next seat rec comm more stage true e = record {
  at = (same_by_eqb _ _ e, omega (arith, more), stage);
  left = if_yes (own_place seat comm == 0) (2 * group_size seat comm - 1) 2 e ∙ omega (arith, more);
  goes = refl;
}
flip_next seat rec comm more stage false e = record {
  at = (eq_not _ _ e, stage);
  left = if_no (own_place seat comm == 0) (2 * group_size seat comm - 1) 2 e;
  goes = refl;
}

module _ (s : Sight) (c : Private) (op : BarAt) (values later : List Bool) (value : ℕ) (l : Flipping s c op values later value) where
  here : IsAtStage s.seat (record_in s) op.comm Flip
  here = subst (λ (x : BarStage). IsAtStage s.seat (record_in s) op.comm x) l.stage l.stands.at

  value_is : value ≡ 1 - (record_in s).flips op.comm % 2
  value_is = l.writes ∙ ap flag_value l.flips.flipped ∙ other_value (value_at values op.comm) ∙ (λ i. 1 - l.stands.parity op.comm l.stands.below i)

  some : 1 ≤ group_size s.seat op.comm
  some = let p = place_below s.seat.setup.nue (setup_key s.seat.setup op.comm) s.seat.rank l.below in omega (arith, p)

  permitted : permits (chunk_of s.seat.setup) (FlipGather op.comm value (last_of s.seat.setup op.comm s.seat.rank)) (record_in s) ≡ true
  permitted = (λ i. is_idle (here i) && (same_by value (1 - (record_in s).flips op.comm % 2) value_is i))

  stored : Makes s.seat (record_in s) (store_of (gather_word s.seat op.comm s.seat.rank) value)
      (after (chunk_of s.seat.setup) (FlipGather op.comm value (last_of s.seat.setup op.comm s.seat.rank)) (record_in s))
  stored = gather_stored s.seat (record_in s) l.valid op.comm value (present_is s.seat.setup op.comm l.stands.below l.stands.present) l.below permitted

  alone_is : (b : Bool) → (group_size s.seat op.comm == 1) ≡ b → (group_size s.seat op.comm - 1 == 0) ≡ b
  alone_is true e = let n : group_size s.seat op.comm ≡ 1 = same_by_eqb _ _ e in same_by (group_size s.seat op.comm - 1) 0 (omega (arith, n))
  alone_is false e = let n : group_size s.seat op.comm ≢ 1 = eq_not _ _ e in let m = some in eqb_other (group_size s.seat op.comm - 1) 0 (λ q. n (omega (arith, q, m)))

  flipped_by : (b : Bool) → (group_size s.seat op.comm == 1) ≡ b → Makes s.seat (record_in s) (store_of (gather_word s.seat op.comm s.seat.rank) value) (after_one (record_in s) op.comm b)
  flipped_by b e =
      let alone = alone_is b e in
      let stage = ap (λ (x : Stage). flip_gather op.comm (group_size s.seat op.comm - 1) x) here ∙ (λ i. if alone i then Idle else Barrier op.comm 0 0) in
      makes_kept stored (λ i. record (record_in s) { stage = stage i; flips = table_with (record_in s).flips op.comm (suc ((record_in s).flips op.comm)); calls = if alone i then (record_in s).calls ++ Bar op.comm ∷ [] else (record_in s).calls })

  module _ (t : Sight) (d : Private) (stores : StoresWord s c (gather_word s.seat op.comm s.seat.rank) value t d) where
    late_is : (b : Bool) → (group_size s.seat op.comm == 1) ≡ b → record_in t ≡ after_one (record_in s) op.comm b
    late_is b e = record_did_one s (store_of (gather_word s.seat op.comm s.seat.rank) value) t stores.did ∙ (flipped_by b e).becomes

    does_store : Does s.seat op.comm op.stage (flag_value (value_at later op.comm)) s c t d
    does_store = subst (λ (x : BarStage). Does s.seat op.comm x (flag_value (value_at later op.comm)) s c t d) (sym l.stage)
        (subst (λ (x : ℕ). StoresWord s c (gather_word s.seat op.comm s.seat.rank) x t d) l.writes stores)

    no_draft_here : list_any (is_draft s.seat.setup) (store_of (gather_word s.seat op.comm s.seat.rank) value ∷ []) ≡ false
    no_draft_here = λ i. is_message_word (role_gather s.seat.setup l.valid op.comm s.seat.rank (present_is s.seat.setup op.comm l.stands.below l.stands.present) l.below i) || false

    out_same : d.out ≡ c.out
    out_same = ap (λ (x : Private). x.out) stores.is

    seat_same : t.seat ≡ s.seat
    seat_same = seat_kept s (store_of (gather_word s.seat op.comm s.seat.rank) value ∷ []) t stores.did

    flipped_alone : (now : BarAt) → now.comm ≡ op.comm → now.stage ≡ after_flip (group_size s.seat op.comm) (own_place s.seat op.comm) → group_size s.seat op.comm ≡ 1
        → BarStands t d now later × BarTurned (meeting s c op values) (meeting t d now later) turn.Done
    flipped_alone now comm stage one =
        let e = same_by (group_size s.seat op.comm) 1 one in
        let rec = late_is true e in
        let flips = ap (λ (r : Record). r.flips) rec in
        let end = stage ∙ if_yes (group_size s.seat op.comm == 1) Finished (if own_place s.seat op.comm == 0 then Gather 0 else Await) e in (
          stands_next l.stands t d now later seat_same out_same comm
              (flipped_parity (record_in s) (record_in t) values later op.comm l.stands.below l.stands.parity l.flips flips)
              (subst (λ (x : BarStage). IsAtStage s.seat (record_in t) op.comm x) (sym end) (ap (λ (r : Record). r.stage) rec)),
          record {
            events = store_of (gather_word s.seat op.comm s.seat.rank) value ∷ [];
            did = stores.did;
            does = does_store;
            tried = NoTry (ap (λ (x : BarStage). barrier_aim_at s.seat op.comm x (flag_value (value_at later op.comm))) l.stage) refl;
            same = comm;
            means = (end, ap (λ (r : Record). r.calls) rec ∙ ap (λ (cs : List DataCall). (record_in s).calls ++ cs) (sym (call_of_stage op Flip l.stage refl)), ap is_gather l.stage);
            flips = flips ∙ ap (λ (x : BarStage). flips_by op.comm x (record_in s).flips) (sym l.stage);
            rest = rest_kept Idle (table_with (record_in s).flips op.comm (suc ((record_in s).flips op.comm))) ((record_in s).calls ++ Bar op.comm ∷ []) rec;
            no_draft = no_draft_here;
          },
        )

    flipped_more : (now : BarAt) → now.comm ≡ op.comm → now.stage ≡ after_flip (group_size s.seat op.comm) (own_place s.seat op.comm) → group_size s.seat op.comm ≢ 1
        → BarStands t d now later × BarTurned (meeting s c op values) (meeting t d now later) turn.Moved
    flipped_more now comm stage one =
        let m = some in
        let more : 1 < group_size s.seat op.comm = omega (arith, one, m) in
        let e = eqb_other (group_size s.seat op.comm) 1 one in
        let rec = late_is false e in
        let flips = ap (λ (r : Record). r.flips) rec in
        let goes_to = stage ∙ if_no (group_size s.seat op.comm == 1) Finished (if own_place s.seat op.comm == 0 then Gather 0 else Await) e in
        let next = flip_next s.seat (record_in t) op.comm more (ap (λ (r : Record). r.stage) rec) (own_place s.seat op.comm == 0) refl in (
          stands_next l.stands t d now later seat_same out_same comm
              (flipped_parity (record_in s) (record_in t) values later op.comm l.stands.below l.stands.parity l.flips flips)
              (subst (λ (x : BarStage). IsAtStage s.seat (record_in t) op.comm x) (sym goes_to) next.at),
          record {
            events = store_of (gather_word s.seat op.comm s.seat.rank) value ∷ [];
            did = stores.did;
            does = does_store;
            tried = NoTry (ap (λ (x : BarStage). barrier_aim_at s.seat op.comm x (flag_value (value_at later op.comm))) l.stage) refl;
            same = comm;
            means = (
              left_is s.seat op now Flip (if own_place s.seat op.comm == 0 then Gather 0 else Await) comm l.stage goes_to next.left,
              ap (λ (r : Record). r.calls) rec,
              ap is_bar_finished l.stage,
              ap is_bar_finished goes_to ∙ next.goes,
            );
            flips = flips ∙ ap (λ (x : BarStage). flips_by op.comm x (record_in s).flips) (sym l.stage);
            rest = rest_kept (Barrier op.comm 0 0) (table_with (record_in s).flips op.comm (suc ((record_in s).flips op.comm))) (record_in s).calls rec;
            no_draft = no_draft_here;
          },
        )

-- the place that the code has, and the group's numbers
pub record FlipPlace (s : Sight) (op : BarAt) (place : WordAt) (size own : ℕ) : Type 0 where
  pub at : place ≡ gather_word s.seat op.comm s.seat.rank
  pub size_is : size ≡ group_size s.seat op.comm
  pub own_is : own ≡ own_place s.seat op.comm

pub flip_may : {s : Sight} {c : Private} {op : BarAt} {values later : List Bool} {value : ℕ} → Flipping s c op values later value
    → (place : WordAt) → place ≡ gather_word s.seat op.comm s.seat.rank → MayMake s.seat (record_in s) (store_of place value)
flip_may {s} {c} {op} {values} {later} {value} l place at =
    subst (λ (p : WordAt). MayMake s.seat (record_in s) (store_of p value)) (sym at) (stored s c op values later value l).may

pub flip_ends : {s t : Sight} {c d : Private} {op : BarAt} {values later : List Bool} {value : ℕ} {place : WordAt} {size own : ℕ} → Flipping s c op values later value
    → FlipPlace s op place size own → StoresWord s c place value t d → (now : BarAt) → now.comm ≡ op.comm → now.stage ≡ after_flip size own → size ≡ 1
    → BarStands t d now later × BarTurned (meeting s c op values) (meeting t d now later) turn.Done
flip_ends {s} {t} {c} {d} {op} {values} {later} {value} l p stores now comm stage one =
    flipped_alone s c op values later value l t d (subst (λ (x : WordAt). StoresWord s c x value t d) p.at stores)
    now comm (stage ∙ (λ i. after_flip (p.size_is i) (p.own_is i))) (sym p.size_is ∙ one)

pub flip_goes : {s t : Sight} {c d : Private} {op : BarAt} {values later : List Bool} {value : ℕ} {place : WordAt} {size own : ℕ} → Flipping s c op values later value
    → FlipPlace s op place size own → StoresWord s c place value t d → (now : BarAt) → now.comm ≡ op.comm → now.stage ≡ after_flip size own → size ≢ 1
    → BarStands t d now later × BarTurned (meeting s c op values) (meeting t d now later) turn.Moved
flip_goes {s} {t} {c} {d} {op} {values} {later} {value} l p stores now comm stage one =
    flipped_more s c op values later value l t d (subst (λ (x : WordAt). StoresWord s c x value t d) p.at stores)
    now comm (stage ∙ (λ i. after_flip (p.size_is i) (p.own_is i))) (λ q. one (p.size_is ∙ q))
