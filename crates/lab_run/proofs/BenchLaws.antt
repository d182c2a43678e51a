-- What a step of one core leaves on a bench.
use Rattle.std.proofs.Common.{◌≡◌, ◌≢◌, ℕ, ◌+◌, ◌<◌, ◌≤◌, drop, get_or, ◌⊎◌, inl, inr, List, [], ◌∷◌, ◌++◌, length, map, slice_index_or, slice_set, true, Option, None, Some, is_some, Result, Ok, Err, IfOk, refl, sym, ◌∙◌, ap, subst, arith}
use Rattle.std.proofs.lemmas.List.{append-nil, at_drop_all, at_drop_more, get_or-map, get_or-set_other, get_or-set_same, length-map, length-set, map-set}
use Rattle.std.specs.Prelude.{OnOk}
use Rattle.scc_base.specs.Setups.{SetupView}
use Rattle.scc_base.specs.declared.events.Event.{Event}
use Rattle.scc_proto.specs.Stages.{Idle, Record}
use Rattle.scc_proto.specs.Words.{Memory, RankEvent, zeros}
use Rattle.scc_proto.specs.Histories.{events_of, memory_from, records_of}
use Rattle.scc_proto.specs.Records.{record_of}
use Rattle.scc_proto.specs.Ports.{record_in}
use Rattle.scc_proto.proofs.Tests.{same_or_other, true_not_false}
use Rattle.put_get.specs.Cores.{Private}
use Rattle.put_get.specs.HeapStores.{AwaitsHeap}
use Rattle.chip_memory.specs.Chips.{TurnChipView, all_events, of_rank_all, turn_sight, with_turn}
use Rattle.scc_proto.proofs.Messages.ChunkRecords.{events_of-append}
use Rattle.chip_memory.proofs.ListLaws.{own_events, other_events}
use Rattle.lab_reader.specs.declared.places.HeapLine.{HeapLine}
use Rattle.lab_reader.specs.declared.places.HeapWord.{HeapWord}
use Rattle.lab_reader.specs.declared.steps.Action.{Action}
use Rattle.lab_reader.specs.declared.steps.Action.TheVariants.{WriteWord, WriteLine, ReadWord, ReadLine, Flush, Invalidate, Put, Get, Load, Store, Print}
use Rattle.lab_reader.specs.declared.steps.Step.{Step}
use Rattle.lab_plain.specs.declared.said.Said.{Said}
use Rattle.lab_plain.specs.Scenes.{CoreScene}
use Rattle.lab_plain.specs.declared.said.Said.TheVariants.{Begins}
use Rattle.lab_plain.specs.declared.said.Stopped.{Stopped}
use Rattle.lab_plain.specs.Meaning.{Done, CoreHolds, Stand, step_done, steps_done, unless_stopped, act_stop, action_done, after_action, with_line_begun, core_at, core_done, holder_of, holds_nothing, is_holder, scene_at, with_scene}
use Rattle.lab_run.specs.Turns.{MadeHeapAccesses, IsLabSetup, MayGoOn, CoreTurned, memory_in, scene_of}
use Rattle.lab_run.specs.Stands.{IsBench, holds_of, record_at, stand_of}
use Rattle.lab_run.proofs.TurnLaws.{rank_kept, setup_kept}

-- ---- records of a chip

pub record_own : (chip : TurnChipView) → record_at chip chip.rank ≡ record_in (turn_sight chip)
unfolding record_in
record_own chip = ap (record_of chip.setup chip.rank) (events_of-append chip.rank chip.before (of_rank_all chip.rank chip.own) ∙ ap (λ (l : List Event). events_of chip.rank chip.before ++ l) (own_events chip.rank chip.own))

record_before : (chip : TurnChipView) (k : ℕ) → k ≢ chip.rank → record_at chip k ≡ record_of chip.setup k (events_of k chip.before)
record_before chip k other = ap (record_of chip.setup k)
    (events_of-append k chip.before (of_rank_all chip.rank chip.own) ∙ ap (λ (l : List Event). events_of k chip.before ++ l) (other_events chip.rank k chip.own other) ∙ append-nil (events_of k chip.before))

-- the records of the other ranks are unchanged
pub record_other : (old new : TurnChipView) (k : ℕ) → new ≡ record old { own = new.own } → k ≢ old.rank → record_at new k ≡ record_at old k
record_other old new k turn other =
    record_before new k (λ same. other (same ∙ ap (λ (c : TurnChipView). c.rank) turn))
    ∙ (λ i. record_of (turn i).setup k (events_of k (turn i).before))
    ∙ sym (record_before old k other)

all_turned : (chip : TurnChipView) (k : ℕ) → all_events (with_turn chip k) ≡ all_events chip
all_turned chip k = append-nil (all_events chip)

pub memory_turned : (chip : TurnChipView) (k : ℕ) → memory_in (with_turn chip k) ≡ memory_in chip
unfolding memory_in
memory_turned chip k = ap (memory_from zeros) (all_turned chip k)

record_turned : (chip : TurnChipView) (k r : ℕ) → record_at (with_turn chip k) r ≡ record_at chip r
record_turned chip k r = ap (λ (l : List RankEvent). records_of chip.setup l r) (all_turned chip k)

-- ---- another turn

pub bench_turned : (chip : TurnChipView) (k : ℕ) (cores : List CoreHolds) (holders : List (Option ℕ)) → IsBench chip cores holders → IsBench (with_turn chip k) cores holders
bench_turned chip k cores holders bench = record {
  setup = bench.setup;
  ranks = bench.ranks;
  places = bench.places;
  idle = λ r below. ap (λ (x : Record). x.stage) (record_turned chip k r) ∙ bench.idle r below;
  awaits = bench.awaits;
  held = λ r j low below. ap (λ (x : Record). is_some (x.held j)) (record_turned chip k r) ∙ bench.held r j low below;
  registers = λ j below. ap (λ (m : Memory). m.register j) (memory_turned chip k) ∙ bench.registers j below;
}

-- ---- one core at work

pub core_there : (cores : List Private) (me : ℕ) (d : Private) → me < length cores → core_at (map holds_of cores) me ≡ holds_of (slice_index_or cores me d)
core_there cores me d below = get_or-map holds_of cores me d holds_nothing below

pub ready_there : (chip : TurnChipView) (cores : List CoreHolds) (holders : List (Option ℕ)) (core : Private) → IsBench chip cores holders → chip.rank < 48 → core_at cores chip.rank ≡ holds_of core
    → MayGoOn core chip
ready_there chip cores holders core bench below is = record {
  setup = bench.setup;
  below = below;
  idle = sym (ap (λ (x : Record). x.stage) (record_own chip)) ∙ bench.idle chip.rank below;
  awaits = subst (λ (h : CoreHolds). AwaitsHeap chip.setup h.out) is (bench.awaits chip.rank below);
}

core_here : (cores : List CoreHolds) (me : ℕ) (h : CoreHolds) → me < length cores → core_at (slice_set cores me h) me ≡ h
core_here cores me h below = get_or-set_same cores me h holds_nothing below

core_elsewhere : (cores : List CoreHolds) (me k : ℕ) (h : CoreHolds) → k ≢ me → core_at (slice_set cores me h) k ≡ core_at cores k
core_elsewhere cores me k h other = get_or-set_other cores me k h holds_nothing other

pub bench_kept : (old new : TurnChipView) (cores : List CoreHolds) (holders : List (Option ℕ)) (d : Private) → IsBench old cores holders → old.rank < 48 → MadeHeapAccesses old new → MayGoOn d new
    → IsBench new (slice_set cores old.rank (holds_of d)) holders
bench_kept old new cores holders d bench below kept ready =
    let setup = setup_kept old new kept in
    let rank = rank_kept old new kept in
    let here : record_at new old.rank ≡ record_in (turn_sight new) = ap (λ (r : ℕ). record_at new r) (sym rank) ∙ record_own new in
    record {
      setup = subst (λ (x : SetupView). IsLabSetup x) (sym setup) bench.setup;
      ranks = length-set cores old.rank (holds_of d) ∙ bench.ranks;
      places = bench.places;
      idle = λ r low. same_or_other ((record_at new r).stage ≡ Idle) r old.rank
          (λ t is. ap (λ (k : ℕ). (record_at new k).stage) is ∙ ap (λ (x : Record). x.stage) here ∙ ready.idle)
          (λ t ne. ap (λ (x : Record). x.stage) (record_other old new r kept.turn ne) ∙ bench.idle r low);
      awaits = λ r low. same_or_other (AwaitsHeap new.setup (core_at (slice_set cores old.rank (holds_of d)) r).out) r old.rank
          (λ t is. subst (λ (h : CoreHolds). AwaitsHeap new.setup h.out) (sym (ap (core_at (slice_set cores old.rank (holds_of d))) is ∙ core_here cores old.rank (holds_of d) (omega (arith, bench.ranks, below)))) ready.awaits)
          (λ t ne. subst (λ (s : SetupView). AwaitsHeap s (core_at (slice_set cores old.rank (holds_of d)) r).out) (sym setup)
          (subst (λ (h : CoreHolds). AwaitsHeap old.setup h.out) (sym (core_elsewhere cores old.rank r (holds_of d) ne)) (bench.awaits r low)));
      held = λ r k low there. same_or_other (is_some ((record_at new r).held k) ≡ is_holder r (holder_of holders k)) r old.rank
          (λ t is. subst (λ (j : ℕ). is_some ((record_at new j).held k) ≡ is_holder j (holder_of holders k)) (sym is)
          (ap (λ (x : Record). is_some (x.held k)) here ∙ (λ i. is_some (kept.held i k)) ∙ sym (ap (λ (x : Record). is_some (x.held k)) (record_own old)) ∙ bench.held old.rank k below there))
          (λ t ne. ap (λ (x : Record). is_some (x.held k)) (record_other old new r kept.turn ne) ∙ bench.held r k low there);
      registers = λ k there. (λ i. kept.registers i k) ∙ bench.registers k there;
    }

-- the state after an action of one core
pub stand_after : (op : CoreScene → CoreScene) (old new : TurnChipView) (cores : List Private) (c d : Private) (holders : List (Option ℕ)) (said told : List Said) (me : ℕ) → core_at (map holds_of cores) me ≡ holds_of c
    → CoreTurned op c old said d new told
    → stand_of new (slice_set cores me d) holders told ≡ with_scene me (stand_of old cores holders said) (op (scene_at me (stand_of old cores holders said)))
stand_after op old new cores c d holders said told me is turned =
    let before : scene_at me (stand_of old cores holders said) ≡ scene_of c old said = λ i. record { memory = memory_in old; lines = (is i).lines; out = (is i).out; said = said } in
    let after : scene_of d new told ≡ op (scene_at me (stand_of old cores holders said)) = turned.scene ∙ sym (ap op before) in
    (λ i. record { memory = memory_in new; cores = map-set holds_of cores me d i; holders = holders; said = told })
    ∙ (λ i. with_scene me (stand_of old cores holders said) (after i))

-- a core made a step
pub record ActDone (line me : ℕ) (act : Action) (old new : TurnChipView) (cores : List Private) (d : Private) (holders : List (Option ℕ)) (said told : List Said) (stop : Option Stopped) : Type 0 where
  pub stand : stand_of new (slice_set cores me d) holders told ≡ (core_done line me act (stand_of old cores holders said)).stand
  pub stopped : stop ≡ (core_done line me act (stand_of old cores holders said)).stop
  pub stands : IsBench new (map holds_of (slice_set cores me d)) holders

act_by : (line : ℕ) (act : Action) (old new : TurnChipView) (cores : List Private) (c d : Private) (holders : List (Option ℕ)) (said told : List Said) (stop : Option Stopped)
    → IsBench old (map holds_of cores) holders → old.rank < 48 → c ≡ slice_index_or cores old.rank c → CoreTurned (after_action old.rank act) c old said d new told
    → stop ≡ act_stop line old.rank act (scene_of c old said) → ActDone line old.rank act old new cores d holders said told stop
act_by line act old new cores c d holders said told stop bench below value turned stops =
    let here : core_at (map holds_of cores) old.rank ≡ holds_of c = core_there cores old.rank c (omega (arith, length-map cores holds_of, bench.ranks, below)) ∙ ap holds_of (sym value) in
    let scene : scene_at old.rank (stand_of old cores holders said) ≡ scene_of c old said = λ i. record { memory = memory_in old; lines = (here i).lines; out = (here i).out; said = said } in
    record {
      stand = stand_after (after_action old.rank act) old new cores c d holders said told old.rank here turned;
      stopped = stops ∙ sym (ap (act_stop line old.rank act) scene);
      stands = subst (λ (l : List CoreHolds). IsBench new l holders) (sym (map-set holds_of cores old.rank d)) (bench_kept old new (map holds_of cores) holders d bench below turned.kept turned.ready);
    }

pub act_done : (line me : ℕ) (act : Action) (old new : TurnChipView) (cores : List Private) (c d : Private) (holders : List (Option ℕ)) (said told : List Said) (stop : Option Stopped)
    → IsBench old (map holds_of cores) holders → old.rank ≡ me → me < 48 → c ≡ slice_index_or cores me c → CoreTurned (after_action old.rank act) c old said d new told
    → stop ≡ act_stop line old.rank act (scene_of c old said) → ActDone line me act old new cores d holders said told stop
act_done line me act old new cores c d holders said told stop bench turn below value turned stops =
    subst (λ (r : ℕ). ActDone line r act old new cores d holders said told stop) turn
    (act_by line act old new cores c d holders said told stop bench (subst (λ (r : ℕ). r < 48) (sym turn) below) (subst (λ (r : ℕ). c ≡ slice_index_or cores r c) (sym turn) value) turned stops)

-- the core that runs next may go on
pub act_ready : (chip : TurnChipView) (cores : List Private) (holders : List (Option ℕ)) (core : Private) (me : ℕ) → IsBench chip (map holds_of cores) holders → chip.rank ≡ me → me < 48
    → core ≡ slice_index_or cores me core → MayGoOn core chip
act_ready chip cores holders core me bench turn below value =
    ready_there chip (map holds_of cores) holders core bench (subst (λ (r : ℕ). r < 48) (sym turn) below)
    (ap (core_at (map holds_of cores)) turn ∙ core_there cores me core (omega (arith, length-map cores holds_of, bench.ranks, below)) ∙ ap holds_of (sym value))

-- ---- a step begins

pub begun_stand : (chip new : TurnChipView) (k : ℕ) (cores : List Private) (holders : List (Option ℕ)) (said told : List Said) (step : Step) → new ≡ with_turn chip k
    → told ≡ said ++ Begins step.line step.text ∷ [] → stand_of new cores holders told ≡ with_line_begun step (stand_of chip cores holders said)
begun_stand chip new k cores holders said told step is prints = λ i. record { memory = (ap memory_in is ∙ memory_turned chip k) i; cores = map holds_of cores; holders = holders; said = prints i }

pub begun_bench : (chip new : TurnChipView) (k : ℕ) (cores : List CoreHolds) (holders : List (Option ℕ)) → new ≡ with_turn chip k → IsBench chip cores holders → IsBench new cores holders
begun_bench chip new k cores holders is bench = subst (λ (c : TurnChipView). IsBench c cores holders) (sym is) (bench_turned chip k cores holders bench)

-- an action that touches no register
pub core_is : (line me : ℕ) (t : Stand) (act : Action)
    → ((x : HeapWord) × (v : ℕ) × (act ≡ WriteWord x v)) ⊎ (((x : HeapLine) × (v : List ℕ) × (act ≡ WriteLine x v)) ⊎ (((x : HeapWord) × (e : Option HeapLine) × (v : Option ℕ) × (act ≡ ReadWord x e v))
    ⊎ (((x : HeapLine) × (e : Option HeapLine) × (v : Option (List ℕ)) × (act ≡ ReadLine x e v)) ⊎ ((act ≡ Flush) ⊎ ((act ≡ Invalidate) ⊎ (((x : HeapLine) × (v : List ℕ) × (act ≡ Put x v))
    ⊎ (((x : HeapLine) × (v : Option (List ℕ)) × (act ≡ Get x v)) ⊎ (((x : HeapWord) × (v : Option ℕ) × (act ≡ Load x v))
    ⊎ (((x : HeapWord) × (v : ℕ) × (act ≡ Store x v)) ⊎ (act ≡ Print)))))))))) → core_done line me act t ≡ action_done line me act t
core_is line me t act (inl found) = subst (λ (a : Action). core_done line me a t ≡ action_done line me a t) (sym found.2) refl
core_is line me t act (inr (inl found)) = subst (λ (a : Action). core_done line me a t ≡ action_done line me a t) (sym found.2) refl
core_is line me t act (inr (inr (inl found))) = subst (λ (a : Action). core_done line me a t ≡ action_done line me a t) (sym found.3) refl
core_is line me t act (inr (inr (inr (inl found)))) = subst (λ (a : Action). core_done line me a t ≡ action_done line me a t) (sym found.3) refl
core_is line me t act (inr (inr (inr (inr (inl is))))) = subst (λ (a : Action). core_done line me a t ≡ action_done line me a t) (sym is) refl
core_is line me t act (inr (inr (inr (inr (inr (inl is)))))) = subst (λ (a : Action). core_done line me a t ≡ action_done line me a t) (sym is) refl
core_is line me t act (inr (inr (inr (inr (inr (inr (inl found))))))) = subst (λ (a : Action). core_done line me a t ≡ action_done line me a t) (sym found.2) refl
core_is line me t act (inr (inr (inr (inr (inr (inr (inr (inl found)))))))) = subst (λ (a : Action). core_done line me a t ≡ action_done line me a t) (sym found.2) refl
core_is line me t act (inr (inr (inr (inr (inr (inr (inr (inr (inl found))))))))) = subst (λ (a : Action). core_done line me a t ≡ action_done line me a t) (sym found.2) refl
core_is line me t act (inr (inr (inr (inr (inr (inr (inr (inr (inr (inl found)))))))))) = subst (λ (a : Action). core_done line me a t ≡ action_done line me a t) (sym found.2) refl
core_is line me t act (inr (inr (inr (inr (inr (inr (inr (inr (inr (inr is)))))))))) = subst (λ (a : Action). core_done line me a t ≡ action_done line me a t) (sym is) refl

pub if_ok : {A E : Type 0} {P Q : A → Type 0} (r : Result A E) → ((x : A) → P x → Q x) → IfOk r P → IfOk r Q
if_ok (Ok x) next p = next x p
if_ok (Err e) next p = tt

pub both_ok : {A E T : Type 0} {P Q : A → Type 0} (r : Result A E) → ((x : A) → T → P x → Q x) → OnOk r T → IfOk r P → IfOk r Q
both_ok (Ok x) next t p = next x t p
both_ok (Err e) next t p = tt

-- ---- the end of a lab

-- a step that stops a lab ends it
pub stops_there : (t : Stand) (stop : Option Stopped) (next : Stand → Done) → is_some stop ≡ true → unless_stopped t stop next ≡ record { stand = t; stop = stop }
stops_there t None next some = absurd (true_not_false (sym some))
stops_there t (Some why) next some = refl

-- the steps from one on: this step is made, then those after it, unless it stops the lab
pub made_then : (steps : List Step) (n : ℕ) (step : Step) (t : Stand) → n < length steps → step ≡ get_or steps n step
    → steps_done (drop n steps) t ≡ unless_stopped (step_done step t).stand (step_done step t).stop (steps_done (drop (n + 1) steps))
made_then steps n step t below is =
    at_drop_more (λ (l : List Step). steps_done l t) steps n step below
    ∙ (λ i. unless_stopped (step_done (sym is i) t).stand (step_done (sym is i) t).stop (steps_done (drop (n + 1) steps)))

-- a lab that stops at this step has ended
pub ends_there : (steps : List Step) (n : ℕ) (step : Step) (t u : Stand) (stop : Option Stopped) (done : Done) → n < length steps → step ≡ get_or steps n step
    → steps_done (drop n steps) t ≡ done → u ≡ (step_done step t).stand → stop ≡ (step_done step t).stop → is_some stop ≡ true → done ≡ record { stand = u; stop = stop }
ends_there steps n step t u stop done below is same stand stops some =
    sym same ∙ made_then steps n step t below is ∙ (λ i. unless_stopped (sym stand i) (sym stops i) (steps_done (drop (n + 1) steps)))
    ∙ stops_there u stop (steps_done (drop (n + 1) steps)) some

-- a lab with no step left has ended
pub ends_last : (steps : List Step) (n : ℕ) (t : Stand) (done : Done) → length steps ≤ n → steps_done (drop n steps) t ≡ done → done ≡ record { stand = t; stop = None }
ends_last steps n t done all same = sym same ∙ at_drop_all (λ (l : List Step). steps_done l t) steps n all
