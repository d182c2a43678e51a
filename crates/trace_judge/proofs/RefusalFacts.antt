-- Why an event is refused, by what the words and the monitor of its rank say.
use Rattle.std.proofs.Common.{◌≡◌, ℕ, Bool, true, false, if◌then◌else◌, List, Option, Some, None, refl, sym, ◌∙◌, ap}
use Rattle.scc_base.specs.Setups.{SetupView}
use Rattle.scc_base.specs.declared.events.Access.{Access}
use Rattle.rank_monitor.specs.Next.{allowed_for}
use Rattle.rank_monitor.specs.declared.next.NextEvent.{NextEvent}
use Rattle.scc_proto.specs.Histories.{memory_from, records_from}
use Rattle.scc_proto.specs.Records.{is_permitted, IsPermitted}
use Rattle.scc_proto.specs.Stages.{blank}
use Rattle.scc_proto.specs.Words.{Memory, zeros, RankEvent}
use Rattle.trace_judge.specs.Judged.{judged_by}
use Rattle.chip_memory.specs.Steps.{is_step, stands_at}
use Rattle.trace_judge.specs.Rulings.{refusal_of}
use Rattle.trace_judge.specs.declared.judge.Refusal.{Refusal}
use Rattle.trace_judge.specs.declared.judge.Refusal.TheVariants.{OtherValue, NotPermitted}

abbrev choose : Bool → Bool → NextEvent → Access → ℕ → Option Refusal
choose step permitted next access found = if step then (if permitted then None else Some (NotPermitted next)) else Some (OtherValue access found)

not_true : (b : Bool) → (b ≡ true → ⊥) → b ≡ false
not_true true never = absurd (never refl)
not_true false never = refl

module _ (s : SetupView) (run : List RankEvent) (e : RankEvent) where
  abbrev memory : Memory
  memory = memory_from zeros run

  abbrev permitted : Bool
  permitted = is_permitted s e.rank (records_from s (λ k. blank) run e.rank) e.event

  abbrev allowed : NextEvent
  allowed = allowed_for s (records_from s (λ k. blank) run e.rank) e.event

  pub refused_value : (step : Bool) (found : ℕ) → step ≡ is_step memory e.event → step ≡ false → found ≡ stands_at memory e.event → Some (OtherValue e.event.access found) ≡ refusal_of (judged_by s run) e
  refused_value step found told is value =
      ap (λ (n : ℕ). Some (OtherValue e.event.access n)) value ∙ sym (ap (λ (b : Bool). choose b permitted allowed e.event.access (stands_at memory e.event)) (sym told ∙ is))

  pub refused_none : (step : Bool) → step ≡ is_step memory e.event → step ≡ true → IsPermitted s e.rank (records_from s (λ k. blank) run e.rank) e.event → None ≡ refusal_of (judged_by s run) e
  refused_none step told is may =
      sym (ap (λ (b : Bool). choose b permitted allowed e.event.access (stands_at memory e.event)) (sym told ∙ is) ∙ ap (λ (b : Bool). choose true b allowed e.event.access (stands_at memory e.event)) may)

  pub refused_permit : (step : Bool) → step ≡ is_step memory e.event → step ≡ true → (IsPermitted s e.rank (records_from s (λ k. blank) run e.rank) e.event → ⊥)
      → (why : Refusal) → why ≡ NotPermitted allowed → Some why ≡ refusal_of (judged_by s run) e
  refused_permit step told is never why same =
      ap (λ (w : Refusal). Some w) same ∙ sym (ap (λ (b : Bool). choose b permitted allowed e.event.access (stands_at memory e.event)) (sym told ∙ is) ∙ ap (λ (b : Bool). choose true b allowed e.event.access (stands_at memory e.event)) (not_true permitted never))
