-- Tests and tables of numbers.
use Rattle.std.proofs.Common.{◌≡◌, ◌≢◌, ⊎_elim, ℕ, ◌<◌, Bool, true, false, not, ◌&&◌, ◌==◌, refl, sym, arith}
use Rattle.std.proofs.lemmas.Bool.Decides.{nat_tests, eqb_tells}
use Rattle.scc_base.specs.Setups.{SetupView}
use Rattle.scc_base.specs.declared.signals.Signal.{Signal}
use Rattle.scc_base.specs.declared.signals.Signal.TheVariants.{Sent, Ready}
use Rattle.scc_proto.specs.Tables.{table_with, put_two, put_signal}
use Rattle.scc_proto.specs.Words.{are_peers}

pub put_here : {A : Type 0} (table : ℕ → A) (i : ℕ) (x : A) → table_with table i x i ≡ x
put_here table i x = grind (arith, nat_tests)

pub put_there : {A : Type 0} (table : ℕ → A) (i : ℕ) (x : A) (k : ℕ) → k ≢ i → table_with table i x k ≡ table k
put_there table i x k ne = grind (arith, nat_tests)

pub put_two_here : {A : Type 0} (table : ℕ → ℕ → A) (i j : ℕ) (x : A) → put_two table i j x i j ≡ x
put_two_here table i j x = grind (arith, nat_tests)

pub put_two_first : {A : Type 0} (table : ℕ → ℕ → A) (i j : ℕ) (x : A) (k l : ℕ) → k ≢ i → put_two table i j x k l ≡ table k l
put_two_first table i j x k l ne = grind (arith, nat_tests)

pub put_two_second : {A : Type 0} (table : ℕ → ℕ → A) (i j : ℕ) (x : A) (k l : ℕ) → l ≢ j → put_two table i j x k l ≡ table k l
put_two_second table i j x k l ne = grind (arith, nat_tests)

pub put_signal_here : {A : Type 0} (table : Signal → A) (signal : Signal) (x : A) → put_signal table signal x signal ≡ x
put_signal_here table Sent x = refl
put_signal_here table Ready x = refl

-- what the flags of the other signal show, and those of this one where its table shows the same
pub put_signal_left : (flags : Signal → ℕ → ℕ → ℕ) (signal other : Signal) (x : ℕ → ℕ → ℕ) (by at : ℕ) → (signal ≡ other → x by at ≡ flags signal by at) → put_signal flags signal x other by at ≡ flags other by at
put_signal_left flags Sent Sent x by at same = same refl
put_signal_left flags Sent Ready x by at same = refl
put_signal_left flags Ready Sent x by at same = refl
put_signal_left flags Ready Ready x by at same = same refl

pub put_signal_alike : (flags : Signal → ℕ → ℕ → ℕ) (signal other : Signal) (x y : ℕ → ℕ → ℕ) (by at : ℕ) → x by at ≡ y by at → put_signal flags signal x other by at ≡ put_signal flags signal y other by at
put_signal_alike flags Sent Sent x y by at same = same
put_signal_alike flags Sent Ready x y by at same = refl
put_signal_alike flags Ready Sent x y by at same = refl
put_signal_alike flags Ready Ready x y by at same = same

-- a number is this one, with the test that tells it, or it is another
pub same_or_other : (P : Type 0) (a b : ℕ) → ((a == b) ≡ true → a ≡ b → P) → ((a == b) ≡ false → a ≢ b → P) → P
same_or_other P a b same other = ⊎_elim (λ (x : ((a == b) ≡ true) × (a ≡ b)). same x.0 x.1) (λ (x : ((a == b) ≡ false) × (a ≢ b)). other x.0 x.1) (eqb_tells a b)

pub eqb_same : (a : ℕ) → (a == a) ≡ true
eqb_same a = grind (arith, nat_tests)

pub same_by_eqb : (a b : ℕ) → (a == b) ≡ true → a ≡ b
same_by_eqb a b t = grind (arith, nat_tests)

pub eqb_other : (a b : ℕ) → a ≢ b → (a == b) ≡ false
eqb_other a b ne = grind (arith, nat_tests)

-- a conjunction that holds
pub both_first : (a b : Bool) → (a && b) ≡ true → a ≡ true
both_first true b t = refl
both_first false b t = t

pub both_second : (a b : Bool) → (a && b) ≡ true → b ≡ true
both_second true b t = t
both_second false b t = absurd (cc)

pub not_true : (a : Bool) → not a ≡ true → a ≡ false
not_true true t = absurd (cc)
not_true false t = refl

pub true_not_false : {P : Type 0} → true ≡ false → P
true_not_false e = absurd (cc)

-- peers are two ranks of the run
pub record ArePeers (s : SetupView) (i j : ℕ) : Type 0 where
  pub one : i < s.nue
  pub other : j < s.nue
  pub apart : i ≢ j

pub peers_are : (s : SetupView) (i j : ℕ) → are_peers s i j ≡ true → ArePeers s i j
peers_are s i j t = record { one = grind (arith, nat_tests); other = grind (arith, nat_tests); apart = λ e. absurd (grind (arith, nat_tests)) }

pub peers_from : (s : SetupView) (i j : ℕ) → i < s.nue → j < s.nue → i ≢ j → are_peers s i j ≡ true
peers_from s i j a b ne = grind (arith, nat_tests)

pub peers_swap : (s : SetupView) (i j : ℕ) → are_peers s i j ≡ true → are_peers s j i ≡ true
peers_swap s i j t = let p = peers_are s i j t in peers_from s j i p.other p.one (λ e. p.apart (sym e))
