-- A chip whose ranks take turns: what each of its events keeps.
use Rattle.std.proofs.Common.{◌≡◌, ◌⊎◌, inl, inr, ℕ, ◌-◌, ◌<◌, List, [], ◌∷◌, ◌++◌, length, take, refl, sym, ◌∙◌, ap, subst, arith}
use Rattle.std.proofs.lemmas.List.{append-nil, append_assoc, append_cancel_left, length-append, map-append, take-append-le}
use Rattle.std.proofs.Math.Seq.{take-length}
use Rattle.scc_base.specs.Events.{IsEvent}
use Rattle.scc_base.specs.Setups.{SetupView, IsSetup}
use Rattle.scc_base.specs.declared.events.Event.{Event}
use Rattle.scc_proto.specs.Stages.{Record, blank}
use Rattle.scc_proto.specs.Words.{zeros, IsStep, IsRun, RankEvent}
use Rattle.scc_proto.specs.Records.{IsPermitted, IsHonest, record_of}
use Rattle.scc_proto.specs.Histories.{IsPermittedRun, events_of, memory_from, records_of}
use Rattle.scc_proto.specs.Ports.{Sight, Did, MayMake, IsSoundPort, record_in}
use Rattle.scc_proto.specs.Registers.{Holder, Nobody, HeldBy}
use Rattle.scc_proto.specs.Soundness.{IsSound}
use Rattle.scc_proto.specs.Agreement.{Agrees}
use Rattle.scc_proto.proofs.Agreement.ListLaw.{records_from_start}
use Rattle.scc_proto.proofs.Agreement.AgreementLaw.{agreement_of_lists}
use Rattle.scc_proto.proofs.Agreement.SoundLaw.{sound_law}
use Rattle.scc_proto.proofs.Agreement.HonestLaw.{told_law}
use Rattle.scc_proto.proofs.Messages.ChunkRecords.{events_of-append, run-append}
use Rattle.chip_memory.specs.Chips.{TurnChipView, of_rank, of_rank_all, all_events, with_turn, before_of, chip_view, IsTurnChip, run_coded, turn_sight, WasStepHere}
use Rattle.chip_memory.proofs.ListLaws.{own_events, permitted_more}

-- ---- the events before a turn

before_kept : (all : List RankEvent) (own : List Event) (x : RankEvent) (e : Event) → before_of (all ++ x ∷ []) (own ++ e ∷ []) ≡ before_of all own
before_kept all own x e =
    ap (λ (n : ℕ). take n (all ++ x ∷ [])) same ∙ take-append-le (length all - length own) all (x ∷ []) (omega (arith))
  where
    same : length (all ++ x ∷ []) - length (own ++ e ∷ []) ≡ length all - length own
    same = omega (arith, length-append all (x ∷ []), length-append own (e ∷ []))

before_all : (all : List RankEvent) → before_of all [] ≡ all
before_all all = ap (λ (n : ℕ). take n all) (omega (arith)) ∙ take-length all

-- ---- before the first event, and another turn

pub chip_at_start : (s : SetupView) (r : ℕ) → IsSetup s → r < s.nue → IsTurnChip s r [] []
chip_at_start s r valid below = record { valid = valid; below = below; run = tt; permitted = tt; ends = refl }

pub chip_turned : (s : SetupView) (r k : ℕ) (all : List RankEvent) (own : List Event) → IsTurnChip s r all own → k < s.nue → IsTurnChip s k all []
chip_turned s r k all own chip below = record {
  valid = chip.valid;
  below = below;
  run = chip.run;
  permitted = chip.permitted;
  ends = sym (append-nil (before_of all []) ∙ before_all all);
}

pub view_turned : (s : SetupView) (r k : ℕ) (all : List RankEvent) (own : List Event) → IsTurnChip s r all own → chip_view s k all [] ≡ with_turn (chip_view s r all own) k
view_turned s r k all own chip = λ i. record { setup = s; rank = k; before = (before_all all ∙ chip.ends) i; own = [] }

-- ---- what is known before an event

-- a register is 0 or 1, since records and registers agree
pub register_bit : (s : SetupView) (run : List RankEvent) → IsSetup s → IsRun zeros run → IsPermittedRun s (λ r. blank) run → (core : ℕ)
    → ((memory_from zeros run).register core ≡ 0) ⊎ ((memory_from zeros run).register core ≡ 1)
register_bit s run valid steps may core = by ((agreement_of_lists s valid run steps may).registers core).holder
  where
    by : Holder s.nue ((memory_from zeros run).register core) core (records_of s run) → ((memory_from zeros run).register core ≡ 0) ⊎ ((memory_from zeros run).register core ≡ 1)
    by (Nobody zero none) = inl zero
    by (HeldBy holder lt one holds others) = inr one

pub was_step : (chip : TurnChipView) (e : Event) → IsStep (memory_from zeros (all_events chip)) e → WasStepHere (turn_sight chip).seat (turn_sight chip).events e
was_step chip e step = record { before = chip.before; own = chip.own; rest = refl; list = refl; step = step }

module _ (s : SetupView) (r : ℕ) (all : List RankEvent) (own : List Event) (chip : IsTurnChip s r all own) where
  pub all_is : all_events (chip_view s r all own) ≡ all
  all_is = sym chip.ends

  list_is : events_of r all ≡ (turn_sight (chip_view s r all own)).events
  list_is = ap (events_of r) chip.ends ∙ events_of-append r (before_of all own) (of_rank_all r own) ∙ ap (λ (l : List Event). events_of r (before_of all own) ++ l) (own_events r own)

  agree : Agrees s (memory_from zeros all) (records_of s all)
  agree = agreement_of_lists s chip.valid all chip.run chip.permitted

  pub chip_is_sound : IsSoundPort (turn_sight (chip_view s r all own))
  unfolding record_in
  chip_is_sound = subst (λ (l : List Event). IsSound s r (record_of s r l)) list_is (sound_law s (memory_from zeros all) (records_of s all) agree r chip.below)

-- ---- an event

-- the rank whose turn it is has made an event
pub record WentOn (old : TurnChipView) (e : Event) (s : SetupView) (r : ℕ) (all : List RankEvent) (own : List Event) : Type 0 where
  pub chip : IsTurnChip s r all own
  pub did : Did (turn_sight old) (e ∷ []) (turn_sight (chip_view s r all own))
  pub sound : IsSoundPort (turn_sight (chip_view s r all own))

module _ (s : SetupView) (r : ℕ) (all : List RankEvent) (own : List Event) (chip : IsTurnChip s r all own) (e : Event) (event : IsEvent e)
    (step_made : IsStep (memory_from zeros (all_events (chip_view s r all own))) e)
    (may : MayMake (turn_sight (chip_view s r all own)).seat (record_in (turn_sight (chip_view s r all own))) e) where
  step : IsStep (memory_from zeros all) e
  step = subst (λ (l : List RankEvent). IsStep (memory_from zeros l) e) (all_is s r all own chip) step_made

  abbrev late : List RankEvent
  late = all ++ of_rank r e ∷ []

  may_here : IsPermitted s r (record_of s r (events_of r all)) e
  unfolding record_in
  may_here = subst (λ (l : List Event). IsPermitted s r (record_of s r l) e) (sym (list_is s r all own chip)) may

  ends_after : late ≡ before_of late (own ++ e ∷ []) ++ of_rank_all r (own ++ e ∷ [])
  ends_after = (λ i. chip.ends i ++ of_rank r e ∷ []) ∙ append_assoc (before_of all own) (of_rank_all r own) (of_rank r e ∷ [])
      ∙ ap (λ (l : List RankEvent). before_of all own ++ l) (sym (map-append (of_rank r) own (e ∷ [])))
      ∙ ap (λ (l : List RankEvent). l ++ of_rank_all r (own ++ e ∷ [])) (sym (before_kept all own (of_rank r e) e))

  chip_after : IsTurnChip s r late (own ++ e ∷ [])
  chip_after = record {
    valid = chip.valid;
    below = chip.below;
    run = run-append zeros all (of_rank r e ∷ []) chip.run (step, tt);
    permitted = permitted_more s (λ k. blank) all (of_rank r e) chip.permitted chip.below event
        (subst (λ (x : ℕ → Record). IsPermitted s r (x r) e) (sym (records_from_start s all)) may_here);
    ends = ends_after;
  }

  honest : IsHonest s r (record_in (turn_sight (chip_view s r all own))) e
  unfolding record_in
  honest = subst (λ (l : List Event). IsHonest s r (record_of s r l) e) (list_is s r all own chip)
      (told_law s (memory_from zeros all) (records_of s all) (agree s r all own chip) r chip.below e event step)

  continues : turn_sight (chip_view s r late (own ++ e ∷ [])) ≡ record (turn_sight (chip_view s r all own)) { events = (turn_sight (chip_view s r all own)).events ++ e ∷ [] }
  continues =
      (λ i. turn_sight (record { setup = s; rank = r; before = before_kept all own (of_rank r e) e i; own = own ++ e ∷ [] }))
      ∙ (λ i. record (turn_sight (record { setup = s; rank = r; before = before_of all own; own = own })) { events = sym (append_assoc (events_of r (before_of all own)) own (e ∷ [])) i })

  went : WentOn (chip_view s r all own) e s r late (own ++ e ∷ [])
  went = record {
    chip = chip_after;
    did = record { continues = continues; made = (record { permitted = may; honest = honest }, tt) };
    sound = chip_is_sound s r late (own ++ e ∷ []) chip_after;
  }

-- an event of the rank whose turn it is, of a chip that is seen so
pub went_on : (s : SetupView) (r : ℕ) (all : List RankEvent) (own : List Event) → IsTurnChip s r all own → (old : TurnChipView) → chip_view s r all own ≡ old → (e : Event) → IsEvent e
    → IsStep (memory_from zeros (all_events old)) e → MayMake (turn_sight old).seat (record_in (turn_sight old)) e
    → (made : List RankEvent) (later : List Event) → made ≡ all ++ of_rank r e ∷ [] → later ≡ own ++ e ∷ [] → WentOn old e s r made later
went_on s r all own chip old is e event step may made later all_push push =
    subst (λ (x : TurnChipView). WentOn x e s r made later) is
    (subst (λ (a : List RankEvent). WentOn (chip_view s r all own) e s r a later) (sym all_push)
    (subst (λ (l : List Event). WentOn (chip_view s r all own) e s r (all ++ of_rank r e ∷ []) l) (sym push)
    (went s r all own chip e event
    (subst (λ (x : TurnChipView). IsStep (memory_from zeros (all_events x)) e) (sym is) step)
    (subst (λ (x : TurnChipView). MayMake (turn_sight x).seat (record_in (turn_sight x)) e) (sym is) may))))

-- ---- a port that has made its events

-- the chip is the one before with these events more of the same turn
pub chip_did : (old new : TurnChipView) (events : List Event) → Did (turn_sight old) events (turn_sight new) → new ≡ record old { own = old.own ++ events }
chip_did old new events did =
    let setup = ap (λ (x : Sight). x.seat.setup) did.continues in
    let rank = ap (λ (x : Sight). x.seat.rank) did.continues in
    let before = run_coded.inj new.before old.before (ap (λ (x : Sight). x.seat.rest) did.continues) in
    let list : events_of old.rank old.before ++ new.own ≡ events_of old.rank old.before ++ (old.own ++ events)
    = sym (λ i. events_of (rank i) (before i) ++ new.own) ∙ ap (λ (x : Sight). x.events) did.continues ∙ append_assoc (events_of old.rank old.before) old.own events in
    let own = append_cancel_left (events_of old.rank old.before) new.own (old.own ++ events) list in
    λ i. record { setup = setup i; rank = rank i; before = before i; own = own i }
