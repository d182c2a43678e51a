-- What comes after each stage, and what the turns have in common.
use Rattle.std.proofs.Common.{◌≡◌, ◌≢◌, ℕ, suc, ◌+◌, ◌-◌, ◌%◌, ◌<◌, Bool, true, false, ◌==◌, if◌then◌else◌, List, [], ◌∷◌, ◌++◌, refl, sym, ◌∙◌, ap, subst, append-nil, arith}
use Rattle.scc_base.specs.Setups.{SetupView, place_of, size_of}
use Rattle.scc_base.specs.Communicators.{rule_of}
use Rattle.scc_base.specs.Calls.{DataCall, Bar}
use Rattle.scc_proto.specs.Stages.{Stage, Barrier, Record}
use Rattle.scc_proto.specs.Ports.{Seat, Sight, record_in}
use Rattle.scc_proto.proofs.PortLaws.{did_nothing}
use Rattle.scc_base.specs.declared.events.Turn.TheVariants as turn
use Rattle.scc_proto.proofs.Tests.{eqb_same, eqb_other, same_by_eqb}
use Rattle.scc_proto.proofs.Layouts.Roles.{if_yes, if_no, eq_not}
use Rattle.put_get.specs.Cores.{Private}
use Rattle.barrier.specs.declared.stages.BarStage.{BarStage}
use Rattle.barrier.specs.declared.stages.BarStage.TheVariants.{Gather, Release, Finished}
use Rattle.barrier.specs.Flags.{IsParityOf, value_at}
use Rattle.barrier.specs.Stages.{BarAt, BarStands, IsAtStage, group_size, own_place, is_bar_finished, is_gather, barrier_aim_at, left_by, bar_left, bar_call, after_member_seen, meeting}
use Rattle.barrier.specs.Turns.{KeepsAllButBarriers, Does, BarTurned, flips_by}
use Rattle.sync_flags.specs.Flags.{flag_value}
use Rattle.sync_flags.specs.Tries.{NoTry}

-- the barrier stands after a turn
pub stands_next : {s : Sight} {c : Private} {op : BarAt} {values : List Bool} → BarStands s c op values → (t : Sight) (d : Private) (now : BarAt) (later : List Bool)
    → t.seat ≡ s.seat → d.out ≡ c.out → now.comm ≡ op.comm → IsParityOf (record_in t) later → IsAtStage s.seat (record_in t) op.comm now.stage
    → BarStands t d now later
stands_next {op = op} st t d now later seat out comm parity at = record {
  below = subst (λ (k : ℕ). k < 16) (sym comm) st.below;
  present = λ e. st.present ((λ i. rule_of (sym seat i).setup.comms (sym comm i)) ∙ e);
  empty = out ∙ st.empty;
  parity = parity;
  at = subst (λ (k : ℕ). IsAtStage t.seat (record_in t) k now.stage) (sym comm)
      (subst (λ (x : Seat). IsAtStage x (record_in t) op.comm now.stage) (sym seat) at);
}

pub size_here : (s : Sight) (op : BarAt) (su : SetupView) (k own size : ℕ) → su ≡ s.seat.setup → k ≡ op.comm → own ≡ s.seat.rank → size ≡ size_of su k own
    → size ≡ group_size s.seat op.comm
size_here s op su k own size a b c e = e ∙ (λ i. size_of (a i) (b i) (c i))

pub place_here : (s : Sight) (op : BarAt) (su : SetupView) (k own place : ℕ) → su ≡ s.seat.setup → k ≡ op.comm → own ≡ s.seat.rank → place ≡ place_of su k own
    → place ≡ own_place s.seat op.comm
place_here s op su k own place a b c e = e ∙ (λ i. place_of (a i) (b i) (c i))

-- a stage that comes next: the record stands there, one turn less is left
pub record Next (seat : Seat) (rec : Record) (comm : ℕ) (before stage : BarStage) : Type 0 where
  pub at : IsAtStage seat rec comm stage
  pub left : left_by (group_size seat comm) (own_place seat comm) before ≡ left_by (group_size seat comm) (own_place seat comm) stage + 1
  pub goes : is_bar_finished stage ≡ false

pub gather_next : (seat : Seat) (rec : Record) (comm seen : ℕ) → own_place seat comm ≡ 0 → seen + 1 < group_size seat comm → rec.stage ≡ Barrier comm (seen + 1) 0
    → Next seat rec comm (Gather seen) (after_member_seen (group_size seat comm) seen)
gather_next seat rec comm seen root fits stage = by (seen + 2 == group_size seat comm) refl
  where
    by : (b : Bool) → (seen + 2 == group_size seat comm) ≡ b → Next seat rec comm (Gather seen) (if b then Release 0 else Gather (seen + 1))
    by true e =
        let size : seen + 2 ≡ group_size seat comm = same_by_eqb _ _ e in
        let all : seen + 1 ≡ group_size seat comm - 1 = omega (arith, size) in
        record { at = (root, omega (arith, fits), stage ∙ (λ i. Barrier comm (all i) 0)); left = omega (arith, size); goes = refl }
    by false e =
        let size : seen + 2 ≢ group_size seat comm = eq_not _ _ e in
        let more : seen + 2 < group_size seat comm = omega (arith, size, fits) in
        record { at = (root, omega (arith, more), stage); left = omega (arith, more); goes = refl }

pub same_by : (a b : ℕ) → a ≡ b → (a == b) ≡ true
same_by a b e = ap (λ (x : ℕ). x == b) e ∙ eqb_same b

-- the last member is released where the code says so
pub last_is : (size released : ℕ) (b : Bool) → released + 1 < size → (released + 2 == size) ≡ b → (suc released == size - 1) ≡ b
last_is size released true fits e = let n : released + 2 ≡ size = same_by_eqb _ _ e in same_by (suc released) (size - 1) (omega (arith, n))
last_is size released false fits e = let n : released + 2 ≢ size = eq_not _ _ e in eqb_other (suc released) (size - 1) (λ q. n (omega (arith, q, fits)))

-- nothing but the stage, the calls and the flips changed
pub rest_kept : {rec new : Record} (stage : Stage) (flips : ℕ → ℕ) (calls : List DataCall) → new ≡ record rec { stage = stage; flips = flips; calls = calls } → KeepsAllButBarriers rec new
rest_kept stage flips calls e = record {
  post = ap (λ (r : Record). r.post) e;
  notes = ap (λ (r : Record). r.notes) e;
  registers = ap (λ (r : Record). r.held) e;
  heap = ap (λ (r : Record). r.heap) e;
}

-- the parity goes on while no flag is flipped
pub parity_kept : (rec new : Record) (values : List Bool) → IsParityOf rec values → new.flips ≡ rec.flips → IsParityOf new values
parity_kept rec new values p e comm lt = p comm lt ∙ (λ i. sym e i comm % 2)

pub call_of_stage : (op : BarAt) (stage : BarStage) → op.stage ≡ stage → is_bar_finished stage ≡ false → bar_call op ≡ Bar op.comm ∷ []
call_of_stage op stage e open_still = if_no (is_bar_finished op.stage) [] (Bar op.comm ∷ []) (ap is_bar_finished e ∙ open_still)

-- what is left of two barriers of one communicator
pub left_is : (seat : Seat) (op now : BarAt) (before stage : BarStage) → now.comm ≡ op.comm → op.stage ≡ before → now.stage ≡ stage
    → left_by (group_size seat op.comm) (own_place seat op.comm) before ≡ left_by (group_size seat op.comm) (own_place seat op.comm) stage + 1
    → bar_left seat op ≡ bar_left seat now + 1
left_is seat op now before stage comm e f left =
    ap (λ (x : BarStage). left_by (group_size seat op.comm) (own_place seat op.comm) x) e ∙ left
    ∙ (λ i. left_by (group_size seat (sym comm i)) (own_place seat (sym comm i)) (sym f i) + 1)

-- a barrier that is at its end stays there
pub turn_nothing : {s : Sight} {c : Private} {op : BarAt} {values : List Bool} → BarStands s c op values → op.stage ≡ Finished → BarTurned (meeting s c op values) (meeting s c op values) turn.Done
turn_nothing {s} {c} {op} {values} st e = record {
  events = [];
  did = did_nothing s;
  does = subst (λ (x : BarStage). Does s.seat op.comm x (flag_value (value_at values op.comm)) s c s c) (sym e) (refl, refl);
  tried = NoTry (ap (λ (x : BarStage). barrier_aim_at s.seat op.comm x (flag_value (value_at values op.comm))) e) refl;
  same = refl;
  means = (e, sym (append-nil (record_in s).calls) ∙ ap (λ (cs : List DataCall). (record_in s).calls ++ cs) (sym (if_yes (is_bar_finished op.stage) [] (Bar op.comm ∷ []) (ap is_bar_finished e))), ap is_gather e);
  flips = ap (λ (x : BarStage). flips_by op.comm x (record_in s).flips) (sym e);
  rest = record { post = refl; notes = refl; registers = refl; heap = refl };
  no_draft = refl;
}
