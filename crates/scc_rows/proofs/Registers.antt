-- What a rank's record reports about a register after the rank read it and freed it.
use Rattle.std.proofs.Common.{◌≡◌, ℕ, Bool, true, false, [], ◌∷◌, Option, None, Some, IfSome, IfNone, is_some, is_none, refl, ◌∙◌, ap}
use Rattle.scc_base.specs.Events.{take_of, free_of}
use Rattle.scc_proto.specs.Stages.{Record, FlagWords}
use Rattle.scc_proto.specs.Records.{act_of}
use Rattle.scc_proto.specs.Ports.{Seat, Sight, Did, MayMake, record_in, record_next}
use Rattle.scc_proto.proofs.Tests.{eqb_same}
use Rattle.scc_proto.proofs.Layouts.Roles.{if_yes}
use Rattle.scc_proto.proofs.PortLaws.{record_did_one}
use Rattle.scc_rows.specs.Rests.{IsWithout, HoldsRegister}

module _ (seat : Seat) (rec : Record) (core : ℕ) where
  may_next : rec.held core ≡ None → MayMake seat rec (take_of core false)
  may_next none = ap is_none none

  missed_next : rec.held core ≡ None → record_next seat rec (take_of core false) ≡ rec
  unfolding record_next act_of
  missed_next none = let may : is_none (rec.held core) ≡ true = ap is_none none in if_yes (is_none (rec.held core)) _ rec may

  taken_next : rec.held core ≡ None → is_some ((record_next seat rec (take_of core true)).held core) ≡ true
  unfolding record_next act_of
  taken_next none =
      let may : is_none (rec.held core) ≡ true = ap is_none none in
      ap (λ (x : Record). is_some (x.held core)) (if_yes (is_none (rec.held core)) _ rec may)
      ∙ ap (λ (x : Option FlagWords). is_some x) (if_yes _ _ (rec.held core) (eqb_same core))

  freed_next : is_some (rec.held core) ≡ true → (record_next seat rec (free_of core)).held core ≡ None
  unfolding record_next act_of
  freed_next held =
      ap (λ (x : Record). x.held core) (if_yes (is_some (rec.held core)) _ rec held) ∙ if_yes _ _ (rec.held core) (eqb_same core)

pub may_take : (s : Sight) (core : ℕ) → IsWithout s core → MayMake s.seat (record_in s) (take_of core false)
may_take s core none = may_next s.seat (record_in s) core none

pub take_tells : (s : Sight) (core : ℕ) (taken : Bool) (t : Sight) → Did s (take_of core taken ∷ []) t → IsWithout s core → taken ≡ true → HoldsRegister t core
take_tells s core true t did none e =
    ap (λ (x : Record). is_some (x.held core)) (record_did_one s (take_of core true) t did) ∙ taken_next s.seat (record_in s) core none
take_tells s core false t did none e = absurd (cc (e))

pub miss_tells : (s : Sight) (core : ℕ) (taken : Bool) (t : Sight) → Did s (take_of core taken ∷ []) t → IsWithout s core → taken ≡ false → IsWithout t core
miss_tells s core true t did none e = absurd (cc (e))
miss_tells s core false t did none e =
    ap (λ (x : Record). x.held core) (record_did_one s (take_of core false) t did ∙ missed_next s.seat (record_in s) core none) ∙ none

pub free_tells : (s : Sight) (core : ℕ) (t : Sight) → Did s (free_of core ∷ []) t → HoldsRegister s core → IsWithout t core
free_tells s core t did held = ap (λ (x : Record). x.held core) (record_did_one s (free_of core) t did) ∙ freed_next s.seat (record_in s) core held

-- ---- locks

pub locked : (s t : Sight) (core : ℕ) (taken : Option ℕ) → Did s (take_of core (is_some taken) ∷ []) t → IsWithout s core → IfSome taken (λ held. held ≡ core) → IfSome taken (λ held. (held ≡ core) × HoldsRegister t core)
locked s t core None did none names = tt
locked s t core (Some held) did none names = (names, take_tells s core true t did none refl)

pub not_locked : (s t : Sight) (core : ℕ) (taken : Option ℕ) → Did s (take_of core (is_some taken) ∷ []) t → IsWithout s core → IfNone taken (IsWithout t core)
not_locked s t core None did none = miss_tells s core false t did none refl
not_locked s t core (Some held) did none = tt
