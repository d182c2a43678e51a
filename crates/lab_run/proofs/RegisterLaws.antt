-- Takes and frees of registers by the core that runs.
use Rattle.std.proofs.Common.{◌≡◌, ◌≢◌, ℕ, ◌<◌, ◌⊎◌, inl, inr, Bool, true, false, if◌then◌else◌, List, [], ◌∷◌, ◌++◌, length, map, slice_set, Option, None, Some, is_some, is_none, refl, sym, ◌∙◌, ap, subst, arith}
use Rattle.std.proofs.lemmas.List.{get_or-set_other, get_or-set_same, length-set, set-get_or}
use Rattle.scc_base.specs.Events.{take_of, free_of}
use Rattle.scc_base.specs.Setups.{SetupView}
use Rattle.scc_proto.specs.Tables.{table_with}
use Rattle.scc_proto.specs.Stages.{Idle, FlagWords, Record}
use Rattle.scc_proto.specs.Words.{Memory, IsRun, IsStep, RankEvent, zeros}
use Rattle.scc_proto.specs.Ports.{Did, Sight, record_in}
use Rattle.std.proofs.lemmas.Bool.Decides.{nat_tests}
use Rattle.scc_proto.proofs.Tests.{eqb_other, eqb_same, put_here, put_there, same_or_other, true_not_false}
use Rattle.tas_lock.specs.Holds.{IsHolding, IsNotHolding}
use Rattle.tas_lock.proofs.HoldLemmas.{freed as was_freed, tried}
use Rattle.put_get.specs.Cores.{Private}
use Rattle.put_get.specs.HeapStores.{AwaitsHeap}
use Rattle.chip_memory.specs.Chips.{TurnChipView, all_events, of_rank_all, turn_sight}
use Rattle.chip_memory.proofs.ChipLaws.{chip_did}
use Rattle.chip_memory.proofs.ListLaws.{run_left}
use Rattle.lab_plain.specs.declared.said.Said.{Said}
use Rattle.lab_plain.specs.declared.said.Said.TheVariants.{Frees, Takes}
use Rattle.lab_plain.specs.declared.said.Stopped.TheVariants.{Holds, HoldsNot}
use Rattle.lab_plain.specs.Meaning as meaning
use Rattle.lab_plain.specs.Meaning.{Done, Stand, core_at, free_made, holder_of, is_holder, register_freed, register_read, take_made, unmet_take}
use Rattle.lab_run.specs.RegisterCalls.{IsRegisterCall}
use Rattle.lab_run.specs.Turns.{IsLabSetup, memory_in}
use Rattle.lab_run.specs.Stands.{IsBench, held_word, holds_of, record_at, stand_of}
use Rattle.lab_run.proofs.HeapEvents.{all_did, memory_did}
use Rattle.lab_run.proofs.BenchLaws.{record_other, record_own}

none_of : (o : Option FlagWords) → is_some o ≡ false → is_none o ≡ true
none_of None none = refl
none_of (Some x) some = sym some

-- a register that its core does not have may be read, and one that it has may be freed
pub may_take : (chip : TurnChipView) (cores : List meaning.CoreHolds) (holders : List (Option ℕ)) (k : ℕ) → IsBench chip cores holders → chip.rank < 48 → k < 48 → is_holder chip.rank (holder_of holders k) ≡ false
    → IsNotHolding (record_in (turn_sight chip)) k
may_take chip cores holders k bench low below not_own =
    none_of ((record_in (turn_sight chip)).held k) (sym (ap (λ (x : Record). is_some (x.held k)) (record_own chip)) ∙ bench.held chip.rank k low below ∙ not_own)

pub may_free : (chip : TurnChipView) (cores : List meaning.CoreHolds) (holders : List (Option ℕ)) (k : ℕ) → IsBench chip cores holders → chip.rank < 48 → k < 48 → is_holder chip.rank (holder_of holders k) ≡ true
    → IsHolding (record_in (turn_sight chip)) k
may_free chip cores holders k bench low below own =
    sym (ap (λ (x : Record). is_some (x.held k)) (record_own chip)) ∙ bench.held chip.rank k low below ∙ own

-- ---- holders

holder_here : (holders : List (Option ℕ)) (k : ℕ) (h : Option ℕ) → k < length holders → holder_of (slice_set holders k h) k ≡ h
holder_here holders k h below = get_or-set_same holders k h None below

holder_there : (holders : List (Option ℕ)) (k j : ℕ) (h : Option ℕ) → j ≢ k → holder_of (slice_set holders k h) j ≡ holder_of holders j
holder_there holders k j h other = get_or-set_other holders k j h None other

-- A bench after one access to a register by the rank that runs. What the rank holds, and the word and the holder of this register, have
-- changed, and nothing else.
pub record Changed (old new : TurnChipView) (k : ℕ) (held : Option FlagWords) (holder : Option ℕ) : Type 0 where
  pub turn : new ≡ record old { own = new.own }
  pub record_is : record_in (turn_sight new) ≡ record (record_in (turn_sight old)) { held = table_with (record_in (turn_sight old)).held k held }
  pub registers : (memory_in new).register ≡ table_with (memory_in old).register k (held_word holder)
  pub own : is_some held ≡ is_holder old.rank holder
  pub others : (r : ℕ) → r ≢ old.rank → is_holder r holder ≡ false

-- before the access, no other rank has the register
pub bench_changed : (old new : TurnChipView) (cores : List meaning.CoreHolds) (holders : List (Option ℕ)) (k : ℕ) (held : Option FlagWords) (holder : Option ℕ) → IsBench old cores holders → old.rank < 48 → k < 48
    → ((r : ℕ) → r ≢ old.rank → is_holder r (holder_of holders k) ≡ false) → Changed old new k held holder → IsBench new cores (slice_set holders k holder)
bench_changed old new cores holders k held holder bench low below alone changed =
    let setup = ap (λ (c : TurnChipView). c.setup) changed.turn in
    let rank = ap (λ (c : TurnChipView). c.rank) changed.turn in
    let here : record_at new old.rank ≡ record_in (turn_sight new) = ap (λ (r : ℕ). record_at new r) (sym rank) ∙ record_own new in
    let place : k < length holders = omega (arith, bench.places, below) in
    record {
      setup = subst (λ (x : SetupView). IsLabSetup x) (sym setup) bench.setup;
      ranks = bench.ranks;
      places = length-set holders k holder ∙ bench.places;
      idle = λ r within. same_or_other ((record_at new r).stage ≡ Idle) r old.rank
          (λ t is. ap (λ (j : ℕ). (record_at new j).stage) is ∙ ap (λ (x : Record). x.stage) (here ∙ changed.record_is) ∙ sym (ap (λ (x : Record). x.stage) (record_own old)) ∙ bench.idle old.rank low)
          (λ t ne. ap (λ (x : Record). x.stage) (record_other old new r changed.turn ne) ∙ bench.idle r within);
      awaits = λ r within. subst (λ (s : SetupView). AwaitsHeap s (core_at cores r).out) (sym setup) (bench.awaits r within);
      held = λ r j within there. same_or_other (is_some ((record_at new r).held j) ≡ is_holder r (holder_of (slice_set holders k holder) j)) r old.rank
          (λ t is. subst (λ (q : ℕ). is_some ((record_at new q).held j) ≡ is_holder q (holder_of (slice_set holders k holder) j)) (sym is)
          (ap (λ (x : Record). is_some (x.held j)) (here ∙ changed.record_is)
          ∙ same_or_other (is_some (table_with (record_in (turn_sight old)).held k held j) ≡ is_holder old.rank (holder_of (slice_set holders k holder) j)) j k
          (λ u same. ap (λ (q : ℕ). is_some (table_with (record_in (turn_sight old)).held k held q)) same ∙ ap (λ (o : Option FlagWords). is_some o) (put_here (record_in (turn_sight old)).held k held)
          ∙ changed.own ∙ sym (ap (λ (o : Option ℕ). is_holder old.rank o) (ap (holder_of (slice_set holders k holder)) same ∙ holder_here holders k holder place)))
          (λ u other. ap (λ (o : Option FlagWords). is_some o) (put_there (record_in (turn_sight old)).held k held j other)
          ∙ sym (ap (λ (x : Record). is_some (x.held j)) (record_own old)) ∙ bench.held old.rank j low there ∙ sym (ap (λ (o : Option ℕ). is_holder old.rank o) (holder_there holders k j holder other)))))
          (λ t ne. ap (λ (x : Record). is_some (x.held j)) (record_other old new r changed.turn ne)
          ∙ bench.held r j within there
          ∙ same_or_other (is_holder r (holder_of holders j) ≡ is_holder r (holder_of (slice_set holders k holder) j)) j k
          (λ u same. ap (λ (q : ℕ). is_holder r (holder_of holders q)) same ∙ alone r ne ∙ sym (changed.others r ne) ∙ sym (ap (λ (o : Option ℕ). is_holder r o) (ap (holder_of (slice_set holders k holder)) same ∙ holder_here holders k holder place)))
          (λ u other. sym (ap (λ (o : Option ℕ). is_holder r o) (holder_there holders k j holder other))));
      registers = λ j there. (λ i. changed.registers i j)
          ∙ same_or_other (table_with (memory_in old).register k (held_word holder) j ≡ held_word (holder_of (slice_set holders k holder) j)) j k
          (λ u same. ap (table_with (memory_in old).register k (held_word holder)) same ∙ put_here (memory_in old).register k (held_word holder)
          ∙ sym (ap held_word (ap (holder_of (slice_set holders k holder)) same ∙ holder_here holders k holder place)))
          (λ u other. put_there (memory_in old).register k (held_word holder) j other ∙ bench.registers j there ∙ sym (ap held_word (holder_there holders k j holder other)));
    }

-- ---- a take

abbrev took_value : Bool → ℕ
took_value took = if took then 1 else 0

-- a take took the register if and only if nobody had it
took_is : (holder : Option ℕ) (took : Bool) (word : ℕ) → word ≡ held_word holder
    → ((took_value took ≡ 1) × (word ≡ 0)) ⊎ ((took_value took ≡ 0) × (word ≡ 1)) → took ≡ is_none holder
took_is None true word is step = refl
took_is (Some core) false word is step = refl
took_is None false word is (inl step) = absurd (omega (arith, step.0))
took_is None false word is (inr step) = absurd (omega (arith, step.1, is))
took_is (Some core) true word is (inl step) = absurd (omega (arith, step.1, is))
took_is (Some core) true word is (inr step) = absurd (omega (arith, step.0))

pub was_free : (old new : TurnChipView) (holder : Option ℕ) (k : ℕ) (took : Bool) → (memory_in old).register k ≡ held_word holder → Did (turn_sight old) (take_of k took ∷ []) (turn_sight new) → IsRun zeros (all_events new)
    → took ≡ is_none holder
unfolding memory_in
was_free old new holder k took is did run =
    took_is holder took ((memory_in old).register k) is
    (run_left zeros (all_events old) (of_rank_all old.rank (take_of k took ∷ [])) (subst (λ (l : List RankEvent). IsRun zeros l) (all_did old new (take_of k took ∷ []) did) run)).0

turn_did : (old new : TurnChipView) (events : List _) → Did (turn_sight old) events (turn_sight new) → new ≡ record old { own = new.own }
turn_did old new events did = let is = chip_did old new events did in is ∙ (λ i. record old { own = sym (ap (λ (c : TurnChipView). c.own) is) i })

-- a take of a free register makes it the core's
pub taken_here : (old new : TurnChipView) (k : ℕ) → IsNotHolding (record_in (turn_sight old)) k → Did (turn_sight old) (take_of k true ∷ []) (turn_sight new)
    → Changed old new k (Some (record { sent = None; ready = None })) (Some old.rank)
taken_here old new k free did = record {
  turn = turn_did old new (take_of k true ∷ []) did;
  record_is = tried (turn_sight old) (turn_sight new) k true free did;
  registers = ap (λ (m : Memory). m.register) (memory_did old new (take_of k true ∷ []) did);
  own = sym (eqb_same old.rank);
  others = λ r ne. eqb_other old.rank r (λ same. ne (sym same));
}

-- a take of another core's register leaves it as it was
pub found_taken : (old new : TurnChipView) (cores : List meaning.CoreHolds) (holders : List (Option ℕ)) (k : ℕ) → IsBench old cores holders → old.rank < 48 → IsNotHolding (record_in (turn_sight old)) k
    → Did (turn_sight old) (take_of k false ∷ []) (turn_sight new) → IsBench new cores holders
found_taken old new cores holders k bench low free did =
    let turn = turn_did old new (take_of k false ∷ []) did in
    let setup = ap (λ (c : TurnChipView). c.setup) turn in
    let rank = ap (λ (c : TurnChipView). c.rank) turn in
    let same : record_in (turn_sight new) ≡ record_in (turn_sight old) = tried (turn_sight old) (turn_sight new) k false free did in
    let here : record_at new old.rank ≡ record_at old old.rank = ap (λ (r : ℕ). record_at new r) (sym rank) ∙ record_own new ∙ same ∙ sym (record_own old) in
    let each : (r : ℕ) → record_at new r ≡ record_at old r
    = λ r. same_or_other (record_at new r ≡ record_at old r) r old.rank (λ t is. ap (record_at new) is ∙ here ∙ sym (ap (record_at old) is)) (λ t ne. record_other old new r turn ne) in
    record {
      setup = subst (λ (x : SetupView). IsLabSetup x) (sym setup) bench.setup;
      ranks = bench.ranks;
      places = bench.places;
      idle = λ r within. ap (λ (x : Record). x.stage) (each r) ∙ bench.idle r within;
      awaits = λ r within. subst (λ (s : SetupView). AwaitsHeap s (core_at cores r).out) (sym setup) (bench.awaits r within);
      held = λ r j within there. ap (λ (x : Record). is_some (x.held j)) (each r) ∙ bench.held r j within there;
      registers = λ j there. ap (λ (m : Memory). m.register j) (memory_did old new (take_of k false ∷ []) did) ∙ bench.registers j there;
    }

-- a register that was freed has no holder
pub freed_here : (old new : TurnChipView) (k : ℕ) → IsHolding (record_in (turn_sight old)) k → Did (turn_sight old) (free_of k ∷ []) (turn_sight new) → Changed old new k None None
freed_here old new k held did = record {
  turn = turn_did old new (free_of k ∷ []) did;
  record_is = was_freed (turn_sight old) (turn_sight new) k held did;
  registers = ap (λ (m : Memory). m.register) (memory_did old new (free_of k ∷ []) did);
  own = refl;
  others = λ r ne. refl;
}

-- if this core has a register or nobody has it, no other core has it
pub alone_none : (me : ℕ) (holder : Option ℕ) → holder ≡ None → (r : ℕ) → r ≢ me → is_holder r holder ≡ false
alone_none me holder none r other = ap (is_holder r) none

pub alone_own : (me : ℕ) (holder : Option ℕ) → is_holder me holder ≡ true → (r : ℕ) → r ≢ me → is_holder r holder ≡ false
alone_own me None own r other = refl
alone_own me (Some core) own r other = eqb_other core r (λ same. other (sym same ∙ grind (arith, nat_tests)))

-- ---- the results of a take and a free

pub taken_own : (line me k : ℕ) (expect : Option Bool) (t : Stand) (holder : Option ℕ) → is_holder me holder ≡ true
    → take_made line me k expect t holder ≡ record { stand = t; stop = Some (Holds line me k) }
taken_own line me k expect t holder own =
    ap (λ (b : Bool). if b then (record { stand = t; stop = Some (Holds line me k) }) else (record { stand = register_read me k (is_none holder) t; stop = unmet_take line (is_none holder) expect })) own

pub taken_other : (line me k : ℕ) (expect : Option Bool) (t : Stand) (holder : Option ℕ) → is_holder me holder ≡ false
    → take_made line me k expect t holder ≡ record { stand = register_read me k (is_none holder) t; stop = unmet_take line (is_none holder) expect }
taken_other line me k expect t holder other =
    ap (λ (b : Bool). if b then (record { stand = t; stop = Some (Holds line me k) }) else (record { stand = register_read me k (is_none holder) t; stop = unmet_take line (is_none holder) expect })) other

pub freed_own : (line me k : ℕ) (t : Stand) (holder : Option ℕ) → is_holder me holder ≡ true → free_made line me k t holder ≡ record { stand = register_freed me k t; stop = None }
freed_own line me k t holder own =
    ap (λ (b : Bool). if b then (record { stand = register_freed me k t; stop = None }) else (record { stand = t; stop = Some (HoldsNot line me k) })) own

pub freed_other : (line me k : ℕ) (t : Stand) (holder : Option ℕ) → is_holder me holder ≡ false → free_made line me k t holder ≡ record { stand = t; stop = Some (HoldsNot line me k) }
freed_other line me k t holder other =
    ap (λ (b : Bool). if b then (record { stand = register_freed me k t; stop = None }) else (record { stand = t; stop = Some (HoldsNot line me k) })) other

-- a bench after a take, with the take's result
pub record TakeDone (line me k : ℕ) (expect : Option Bool) (took : Bool) (old new : TurnChipView) (cores : List Private) (holders : List (Option ℕ)) (said : List Said) : Type 0 where
  pub stand : stand_of new cores (slice_set holders k (if took then Some me else holder_of holders k)) (said ++ Takes me k took ∷ []) ≡ (take_made line me k expect (stand_of old cores holders said) (holder_of holders k)).stand
  pub stop : unmet_take line took expect ≡ (take_made line me k expect (stand_of old cores holders said) (holder_of holders k)).stop
  pub stands : IsBench new (map holds_of cores) (slice_set holders k (if took then Some me else holder_of holders k))

none_is : (o : Option ℕ) → is_none o ≡ true → o ≡ None
none_is None none = refl
none_is (Some x) none = absurd (true_not_false (sym none))

take_by : (took : Bool) (line k : ℕ) (expect : Option Bool) (old new : TurnChipView) (cores : List Private) (holders : List (Option ℕ)) (said : List Said) → IsBench old (map holds_of cores) holders
    → old.rank < 48 → k < 48 → is_holder old.rank (holder_of holders k) ≡ false → Did (turn_sight old) (take_of k took ∷ []) (turn_sight new) → took ≡ is_none (holder_of holders k)
    → TakeDone line old.rank k expect took old new cores holders said
take_by true line k expect old new cores holders said bench low below other did found =
    let done = taken_other line old.rank k expect (stand_of old cores holders said) (holder_of holders k) other in
    record {
      stand = (λ i. record { memory = memory_did old new (take_of k true ∷ []) did i; cores = map holds_of cores; holders = slice_set holders k (Some old.rank); said = said ++ Takes old.rank k true ∷ [] })
          ∙ (λ i. register_read old.rank k (found i) (stand_of old cores holders said)) ∙ sym (ap (λ (d : Done). d.stand) done);
      stop = (λ i. unmet_take line (found i) expect) ∙ sym (ap (λ (d : Done). d.stop) done);
      stands = bench_changed old new (map holds_of cores) holders k (Some (record { sent = None; ready = None })) (Some old.rank) bench low below
          (alone_none old.rank (holder_of holders k) (none_is (holder_of holders k) (sym found)))
          (taken_here old new k (may_take old (map holds_of cores) holders k bench low below other) did);
    }
take_by false line k expect old new cores holders said bench low below other did found =
    let done = taken_other line old.rank k expect (stand_of old cores holders said) (holder_of holders k) other in
    let same : slice_set holders k (holder_of holders k) ≡ holders = set-get_or holders k None in
    record {
      stand = (λ i. record { memory = memory_did old new (take_of k false ∷ []) did i; cores = map holds_of cores; holders = same i; said = said ++ Takes old.rank k false ∷ [] })
          ∙ (λ i. register_read old.rank k (found i) (stand_of old cores holders said)) ∙ sym (ap (λ (d : Done). d.stand) done);
      stop = (λ i. unmet_take line (found i) expect) ∙ sym (ap (λ (d : Done). d.stop) done);
      stands = subst (λ (h : List (Option ℕ)). IsBench new (map holds_of cores) h) (sym same)
          (found_taken old new (map holds_of cores) holders k bench low (may_take old (map holds_of cores) holders k bench low below other) did);
    }

pub take_done : (took : Bool) (line me k : ℕ) (expect : Option Bool) (old new : TurnChipView) (cores : List Private) (holders : List (Option ℕ)) (said : List Said) → IsBench old (map holds_of cores) holders
    → old.rank ≡ me → me < 48 → k < 48 → is_holder me (holder_of holders k) ≡ false → Did (turn_sight old) (take_of k took ∷ []) (turn_sight new) → IsRun zeros (all_events new)
    → TakeDone line me k expect took old new cores holders said
take_done took line me k expect old new cores holders said bench turn low below other did run =
    subst (λ (r : ℕ). TakeDone line r k expect took old new cores holders said) turn
    (take_by took line k expect old new cores holders said bench (subst (λ (r : ℕ). r < 48) (sym turn) low) below (subst (λ (r : ℕ). is_holder r (holder_of holders k) ≡ false) (sym turn) other) did
    (was_free old new (holder_of holders k) k took (bench.registers k below) did run))

-- a bench after a free
pub record FreeDone (line me k : ℕ) (old new : TurnChipView) (cores : List Private) (holders : List (Option ℕ)) (said : List Said) : Type 0 where
  pub stand : stand_of new cores (slice_set holders k None) (said ++ Frees me k ∷ []) ≡ (free_made line me k (stand_of old cores holders said) (holder_of holders k)).stand
  pub stop : None ≡ (free_made line me k (stand_of old cores holders said) (holder_of holders k)).stop
  pub stands : IsBench new (map holds_of cores) (slice_set holders k None)

pub free_done : (line me k : ℕ) (old new : TurnChipView) (cores : List Private) (holders : List (Option ℕ)) (said : List Said) → IsBench old (map holds_of cores) holders
    → old.rank ≡ me → me < 48 → k < 48 → is_holder me (holder_of holders k) ≡ true → Did (turn_sight old) (free_of k ∷ []) (turn_sight new) → FreeDone line me k old new cores holders said
free_done line me k old new cores holders said bench turn low below own did =
    let done = freed_own line me k (stand_of old cores holders said) (holder_of holders k) own in
    let low_here = subst (λ (r : ℕ). r < 48) (sym turn) low in
    let own_here = subst (λ (r : ℕ). is_holder r (holder_of holders k) ≡ true) (sym turn) own in
    record {
      stand = (λ i. record { memory = memory_did old new (free_of k ∷ []) did i; cores = map holds_of cores; holders = slice_set holders k None; said = said ++ Frees me k ∷ [] }) ∙ sym (ap (λ (d : Done). d.stand) done);
      stop = sym (ap (λ (d : Done). d.stop) done);
      stands = bench_changed old new (map holds_of cores) holders k None None bench low_here below (alone_own old.rank (holder_of holders k) own_here)
          (freed_here old new k (may_free old (map holds_of cores) holders k bench low_here below own_here) did);
    }

-- ---- the calls of tas_lock

pub take_call : (line me k : ℕ) (expect : Option Bool) (t : Stand) (old new : Sight) (held : Option ℕ) → is_holder me (holder_of t.holders k) ≡ false → t.memory.register k ≡ held_word (holder_of t.holders k)
    → Did old (take_of k (is_some held) ∷ []) new → IsStep t.memory (take_of k (is_some held))
    → IsRegisterCall me (Takes me k (is_some held)) old new (take_made line me k expect t (holder_of t.holders k)) (record { stand = register_read me k (is_some held) t; stop = unmet_take line (is_some held) expect })
take_call line me k expect t old new held other word did step =
    let same = took_is (holder_of t.holders k) (is_some held) (t.memory.register k) word step in
    record {
      events = take_of k (is_some held) ∷ [];
      did = did;
      access = refl;
      same = taken_other line me k expect t (holder_of t.holders k) other ∙ (λ i. record { stand = register_read me k (sym same i) t; stop = unmet_take line (sym same i) expect });
    }

pub free_call : (line me k : ℕ) (t : Stand) (old new : Sight) → is_holder me (holder_of t.holders k) ≡ true → Did old (free_of k ∷ []) new
    → IsRegisterCall me (Frees me k) old new (free_made line me k t (holder_of t.holders k)) (record { stand = register_freed me k t; stop = None })
free_call line me k t old new own did = record {
  events = free_of k ∷ [];
  did = did;
  access = refl;
  same = freed_own line me k t (holder_of t.holders k) own;
}
