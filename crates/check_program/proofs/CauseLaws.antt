-- The cause that is found at the end of a script is a cause.
use Rattle.std.proofs.Common.{◌≡◌, ℕ, ◌<◌, List, length, Option, Some, None, IfSome, sym, subst}
use Rattle.std.specs.Prelude.{is_some}
use Rattle.std.specs.Option.{option_map}
use Rattle.groups.specs.Peers.{IsPeer}
use Rattle.plain_meaning.specs.Ends.{Ended, ended_at}
use Rattle.plain_meaning.specs.HeldUp.{IsExplained}
use Rattle.check_program.specs.declared.causes.Cause.{Cause}
use Rattle.check_program.specs.Waiting.{IsCause, cause_of, is_waiting, waits_for}
use Rattle.check_program.proofs.CycleLaws.{cause_means}
use Rattle.check_program.proofs.WaitingLaws.{waits_peer}

module _ (keys : ℕ → ℕ → ℕ) (ends : List Ended) (explained : (i : ℕ) → i < length ends → IsExplained keys ends i) where
  abbrev next : ℕ → Option ℕ
  next = waits_for keys ends

  -- each step leads to a rank of the run
  low : (i k : ℕ) → i < length ends → next i ≡ Some k → k < length ends
  low i k below is = (subst (λ (o : Option ℕ). IfSome o (λ j. IsPeer (length ends) i j)) is (waits_peer keys ends i (explained i below)).1).below

  waiting : (i : ℕ) → i < length ends → is_some (next i) ≡ is_waiting (ended_at ends i).end
  waiting i below = (waits_peer keys ends i (explained i below)).0

  found : (rank : ℕ) → rank < length ends → (o : Option ℕ) → IfSome (option_map (λ on. cause_of next ends rank) o) (λ why. IsCause next ends rank why)
  found rank below None = tt
  found rank below (Some k) = cause_means next ends low waiting rank below

-- the same, where the ends are those of a script, and the answer is a call's
pub answer_means : (keys : ℕ → ℕ → ℕ) (ends meant : List Ended) (nue rank : ℕ) (result : Option Cause) → ends ≡ meant → length ends ≡ nue → ((i : ℕ) → i < nue → IsExplained keys meant i) → rank < nue
    → result ≡ option_map (λ on. cause_of (waits_for keys ends) ends rank) (waits_for keys ends rank) → IfSome result (λ why. IsCause (waits_for keys ends) ends rank why)
answer_means keys ends meant nue rank result same many law below gives =
    let explained : (i : ℕ) → i < length ends → IsExplained keys ends i = λ i within.
    subst (λ (e : List Ended). IsExplained keys e i) (sym same) (law i (subst (λ (n : ℕ). i < n) many within)) in
    subst (λ (o : Option Cause). IfSome o (λ why. IsCause (waits_for keys ends) ends rank why)) (sym gives)
    (found keys ends explained rank (subst (λ (n : ℕ). rank < n) (sym many) below) (waits_for keys ends rank))
