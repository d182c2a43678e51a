-- What a vain try tells that was a step of words which agree with records.
use Rattle.std.proofs.Common.{◌≡◌, ◌≢◌, ⊎_elim, ℕ, ◌==◌, Bool, true, false, not, ◌&&◌, Option, Some, None, is_none, is_some, refl, sym, ap, ◌∙◌, subst, arith}
use Rattle.std.proofs.lemmas.Option.{same_Some}
use Rattle.scc_base.specs.Places.{WordAt}
use Rattle.scc_base.specs.Setups.{SetupView}
use Rattle.scc_base.specs.declared.events.Access.{Access}
use Rattle.scc_base.specs.declared.events.Access.TheVariants.{Load, Store, Take, Free}
use Rattle.scc_base.specs.declared.events.Event.{Event}
use Rattle.scc_proto.specs.Agreement.{Agrees}
use Rattle.scc_proto.specs.Registers.{Holder, Nobody, HeldBy}
use Rattle.scc_proto.specs.Stages.{Record}
use Rattle.scc_proto.specs.Words.{is_at, IsStep, IsStepBy, Memory, word_at}
use Rattle.scc_proto.proofs.Tests.{both_first, both_second, eqb_same, not_true, same_by_eqb, same_or_other}
use Rattle.put_get.specs.Transfers.{is_load}
use Rattle.sync_flags.specs.Flags.{is_set_in}
use Rattle.sync_flags.specs.Tries.{Aim, AtFlag, AtRegister, AtWord, is_take, is_try, has_failed}
use Rattle.chip_run.specs.Turns.{NoneElseHolds}
use Rattle.waiting_laws.specs.Looks.{Tells}

-- a number that is not another one by the test is not it
pub differ : (a b : ℕ) → (a == b) ≡ false → a ≢ b
differ a b test same = let is : (a == b) ≡ true = subst (λ (c : ℕ). (a == c) ≡ true) same (eqb_same a) in cc (is, test)

-- what is told of an aim that is this one
pub aimed : (memory : Memory) (one aim : Aim) → Some one ≡ Some aim → Tells memory aim → Tells memory one
aimed memory one aim is tells = subst (Tells memory) (sym (same_Some one aim is)) tells

load_is : (a : Access) → is_load a ≡ true → a ≡ Load
load_is Load is = refl
load_is Store is = absurd (cc)
load_is Take is = absurd (cc)
load_is Free is = absurd (cc)

pub take_is : (a : Access) → is_take a ≡ true → a ≡ Take
take_is Load is = absurd (cc)
take_is Store is = absurd (cc)
take_is Take is = refl
take_is Free is = absurd (cc)

none_is : {A : Type 0} (o : Option A) → is_none o ≡ true → o ≡ None
none_is None is = refl
none_is (Some x) is = absurd (cc)

place_is : (place other : WordAt) → is_at place other.core other.line other.word ≡ true → other ≡ place
place_is place other is =
    let rest = both_second (other.core == place.core) ((other.line == place.line) && (other.word == place.word)) is in
    let core = same_by_eqb other.core place.core (both_first (other.core == place.core) ((other.line == place.line) && (other.word == place.word)) is) in
    let line = same_by_eqb other.line place.line (both_first (other.line == place.line) (other.word == place.word) rest) in
    let word = same_by_eqb other.word place.word (both_second (other.line == place.line) (other.word == place.word) rest) in
    λ i. record { core = core i; line = line i; word = word i }

-- a load of a place that was a step has the place's word
loaded : (changing : Bool) (memory : Memory) (place : WordAt) (e : Event) → (not changing && (is_load e.access && is_at place e.place.core e.place.line e.place.word)) ≡ true → IsStep memory e → word_at memory place ≡ e.value
loaded changing memory place e try_is step =
    let look = both_second (not changing) (is_load e.access && is_at place e.place.core e.place.line e.place.word) try_is in
    let load = load_is e.access (both_first (is_load e.access) (is_at place e.place.core e.place.line e.place.word) look) in
    let there = place_is place e.place (both_second (is_load e.access) (is_at place e.place.core e.place.line e.place.word) look) in
    let has : word_at memory e.place ≡ e.value = subst (λ (a : Access). IsStepBy a e.place e.value memory) load step in
    ap (word_at memory) (sym there) ∙ has

module _ (s : SetupView) (memory : Memory) (records : ℕ → Record) (me : ℕ) (agrees : Agrees s memory records) (others : NoneElseHolds s records me) where
  -- a take finds no register taken
  no_take : (e : Event) → is_take e.access ≡ true → (e.value == 0) ≡ true → (is_take e.access ≡ true → is_none ((records me).held e.place.core) ≡ true) → IsStep memory e → ⊥
  no_take e takes zero_is own step = by (agrees.registers e.place.core).holder
    where
      taken : memory.register e.place.core ≡ 1
      taken =
          ⊎_elim
          (λ (one : (e.value ≡ 1) × (memory.register e.place.core ≡ 0)). let none : e.value ≡ 0 = same_by_eqb e.value 0 zero_is in let some = one.0 in absurd (omega (arith, none, some)))
          (λ (none : (e.value ≡ 0) × (memory.register e.place.core ≡ 1)). none.1)
          (subst (λ (a : Access). IsStepBy a e.place e.value memory) (take_is e.access takes) step)

      by : Holder s.nue (memory.register e.place.core) e.place.core records → ⊥
      by (Nobody free none) = let two = taken in omega (arith, free, two)
      by (HeldBy holder low reg some rest) =
          same_or_other ⊥ holder me
          (λ t same.
          let none : (records holder).held e.place.core ≡ None = ap (λ (k : ℕ). (records k).held e.place.core) same ∙ none_is ((records me).held e.place.core) (own takes) in
          let not_some = ap is_some none in cc (not_some, some))
          (λ t ne. let none = others holder e.place.core low ne in let not_some = ap is_some none in cc (not_some, some))

  -- what the vain try tells
  pub told : (changing : Bool) (aim : Aim) (e : Event) → is_try changing aim e ≡ true → has_failed aim e ≡ true → (is_take e.access ≡ true → is_none ((records me).held e.place.core) ≡ true) → IsStep memory e → Tells memory aim
  told changing (AtFlag place bit true) e try_is failed own step =
      ap (is_set_in bit) (loaded changing memory place e try_is step) ∙ not_true (is_set_in bit e.value) failed
  told changing (AtFlag place bit false) e try_is failed own step = tt
  told changing (AtWord place value) e try_is failed own step = λ is.
      differ e.value value (not_true (e.value == value) failed) (sym (loaded changing memory place e try_is step) ∙ is)
  told changing (AtRegister core) e try_is failed own step = no_take e (both_first (is_take e.access) (e.place.core == core) try_is) failed own step
