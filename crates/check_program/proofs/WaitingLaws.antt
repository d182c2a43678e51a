-- Who waits for whom, and what a walk comes to.
use Rattle.std.proofs.Common.{◌≡◌, ◌≢◌, ℕ, zero, suc, ◌+◌, ◌-◌, ◌<◌, ◌≤◌, min, not, ◌&&◌, Bool, true, false, cond, List, [], ◌∷◌, ◌++◌, length, map, Option, Some, None, IfSome, refl, sym, ap, ◌∙◌, subst, arith}
use Rattle.std.specs.Prelude.{is_some}
use Rattle.std.specs.List.{range_with_len}
use Rattle.std.specs.Option.{option_map, option_map_or, unwrap_or}
use Rattle.std.proofs.lemmas.Bool.{eq-eqb}
use Rattle.std.proofs.lemmas.List.FromFn.{map-range_with_len_more}
use Rattle.groups.specs.Peers.{IsPeer}
use Rattle.scc_base.specs.Groups.{is_with}
use Rattle.scc_base.specs.declared.calls.Call.{Call}
use Rattle.scc_base.specs.declared.calls.Call.TheVariants as call
use Rattle.script_machine.specs.declared.ends.UeEnd.{UeEnd}
use Rattle.script_machine.specs.declared.ends.UeEnd.TheVariants as ue_end
use Rattle.plain_meaning.specs.Ends.{Ended, ended_at}
use Rattle.plain_meaning.specs.HeldUp.{HasCause, IsExplained, IsHeldUp, ended_at_barrier}
use Rattle.plain_meaning.specs.Meaning.{plain_end, plain_ends, seen_of}
use Rattle.plain_meaning.proofs.Runs.PlainLaws.{length-plain_end}
use Rattle.plain_meaning.proofs.Messages.RestLaws.{ends_length}
use Rattle.script_rules.specs.Script.{Script}
use Rattle.check_program.specs.Waiting.{cause_at, cause_of, first_from, found_at, is_absent_from, is_waiting, least_walked, trouble_of, waits_by_call, waits_by_end, waits_for, after_steps}
use Rattle.check_program.specs.declared.causes.Cause.{Cause}
use Rattle.check_program.specs.declared.trouble.Found.{Found}
use Rattle.check_program.specs.declared.trouble.Trouble.{Trouble}

-- the first number that passes is found where one passes
first_by : (test : ℕ → Bool) (n k j : ℕ) → k ≤ j → j < k + n → test j ≡ true → (i : ℕ) × (first_from test n k ≡ Some i) × (k ≤ i) × (i < k + n) × (test i ≡ true)
first_by test zero k j from to is = absurd (omega (arith, from, to))
first_by test (suc n) k j from to is = by (λ apart. first_by test n (k + 1) j (omega (arith, from, apart)) (omega (arith, to)) is) (test k) refl
  where
    by : (k ≢ j → (i : ℕ) × (first_from test n (k + 1) ≡ Some i) × (k + 1 ≤ i) × (i < k + 1 + n) × (test i ≡ true)) → (b : Bool) → test k ≡ b
        → (i : ℕ) × (cond b (Some k) (first_from test n (k + 1)) ≡ Some i) × (k ≤ i) × (i < k + suc n) × (test i ≡ true)
    by rest true here = (k, refl, omega arith, omega arith, here)
    by rest false here =
        let more = rest (λ same. let both : false ≡ true = sym here ∙ ap test same ∙ is in cc) in
        (more.0, more.1, omega (arith, more.2), omega (arith, more.3), more.4)

both_parts : (a b : Bool) → (a && b) ≡ true → b ≡ true
both_parts true b is = is
both_parts false b is = absurd (cc)

not_both : (a b : Bool) → a ≡ true → b ≡ false → (a && not b) ≡ true
not_both a b first second = ap (λ (x : Bool). x && not b) first ∙ ap not second

module _ (keys : ℕ → ℕ → ℕ) (ends : List Ended) (rank : ℕ) where
  peer_of : (slot : Option ℕ) (to : ℕ) → IfSome slot (λ k. IsPeer (length ends) rank k) → IsPeer (length ends) rank to → IsPeer (length ends) rank (unwrap_or slot to)
  peer_of None to way own = own
  peer_of (Some k) to way own = way

  -- a rank that stands at a call waits for another rank of the run
  call_peer : (slot : Option ℕ) (line : ℕ) (c : Call) → (ended_at ends rank).end ≡ ue_end.Waits line c → IsHeldUp keys ends rank c → IfSome slot (λ k. IsPeer (length ends) rank k)
      → (k : ℕ) × (waits_by_call keys ends rank slot c ≡ Some k) × IsPeer (length ends) rank k
  call_peer slot line (call.Send to head) is held way = (unwrap_or slot to, refl, peer_of slot to way held)
  call_peer slot line (call.Post to head) is held way = (unwrap_or slot to, refl, peer_of slot to way held)
  call_peer slot line (call.Recv from head) is held way = (from, refl, held)
  call_peer slot line (call.Bar comm) is held way =
      let test : ℕ → Bool = is_absent_from keys ends comm rank in
      let awaited = held.1 in
      let found = first_by test (length ends) 0 held.0 (omega arith) (omega (arith, awaited.below)) (not_both _ _ awaited.member awaited.absent) in
      let here : ended_at_barrier comm (ended_at ends rank).end ≡ true = ap (ended_at_barrier comm) is ∙ eq-eqb comm comm refl in (
        found.0,
        found.1,
        record {
          below = omega (arith, found.3);
          other = λ same.
              let gone : not (ended_at_barrier comm (ended_at ends rank).end) ≡ true = both_parts (is_with (keys comm) rank rank) _ (ap test (sym same) ∙ found.4) in
              let none : not true ≡ true = sym (ap not here) ∙ gone in
              cc;
        },
      )

  end_peer : (e : UeEnd) (slot : Option ℕ) → (ended_at ends rank).end ≡ e → HasCause keys ends rank e → IfSome slot (λ k. IsPeer (length ends) rank k)
      → (is_some (waits_by_end keys ends rank slot e) ≡ is_waiting e) × IfSome (waits_by_end keys ends rank slot e) (λ k. IsPeer (length ends) rank k)
  end_peer ue_end.Finished slot is has way = (refl, tt)
  end_peer (ue_end.Waits line c) slot is has way =
      let on = call_peer slot line c is has way in
      (ap is_some on.1, subst (λ (o : Option ℕ). IfSome o (λ k. IsPeer (length ends) rank k)) (sym on.1) on.2)
  end_peer (ue_end.Mismatch line from sent asked) slot is has way = (refl, tt)

  pub waits_peer : IsExplained keys ends rank → (is_some (waits_for keys ends rank) ≡ is_waiting (ended_at ends rank).end) × IfSome (waits_for keys ends rank) (λ k. IsPeer (length ends) rank k)
  waits_peer is = end_peer (ended_at ends rank).end (ended_at ends rank).in_flight refl is.cause is.in_flight

-- the same, where the ends are those of a script, and the answer is a call's
pub answer_peer : (keys : ℕ → ℕ → ℕ) (ends meant : List Ended) (nue rank : ℕ) (result : Option ℕ) → ends ≡ meant → length ends ≡ nue → IsExplained keys meant rank → result ≡ waits_for keys ends rank
    → (is_some result ≡ is_waiting (ended_at ends rank).end) × IfSome result (λ k. IsPeer nue rank k)
answer_peer keys ends meant nue rank result same many is gives =
    let here = waits_peer keys ends rank (subst (λ (e : List Ended). IsExplained keys e rank) (sym same) is) in (
      ap is_some gives ∙ here.0,
      subst (λ (o : Option ℕ). IfSome o (λ k. IsPeer nue rank k)) (sym gives)
          (subst (λ (n : ℕ). IfSome (waits_for keys ends rank) (λ k. IsPeer n rank k)) many here.1),
    )

pub first_past : (test : ℕ → Bool) (n m k : ℕ) → n ≡ suc m → test k ≡ false → first_from test n k ≡ first_from test m (k + 1)
first_past test n m k more is = ap (λ (x : ℕ). first_from test x k) more ∙ ap (λ (b : Bool). cond b (Some k) (first_from test m (k + 1))) is

-- as many ends as ranks
pub many : (script : Script) (ends : List Ended) → ends ≡ plain_ends script → length ends ≡ script.nue
many script ends same = ap length same ∙ ends_length (seen_of (plain_end script)) ∙ length-plain_end script

module _ (next : ℕ → Option ℕ) where
  -- one step, and then the rest of a walk
  pub walked_on : (n m at to : ℕ) → n ≡ suc m → next at ≡ Some to → after_steps next n at ≡ after_steps next m to
  walked_on n m at to more is = ap (λ (k : ℕ). after_steps next k at) more ∙ ap (λ (o : Option ℕ). option_map_or (after_steps next m) o at) is

  least_by : (n at : ℕ) (o : Option ℕ) → option_map_or (λ k. min at (least_walked next n k)) o at ≤ at
  least_by n at None = omega arith
  least_by n at (Some k) = omega arith

  pub least_le : (n at : ℕ) → least_walked next n at ≤ at
  least_le zero at = omega arith
  least_le (suc n) at = least_by n at (next at)

  -- the least so far, one step further
  pub least_on : (n m at to so_far now : ℕ) → n ≡ suc m → next at ≡ Some to → so_far ≤ at → now ≡ min so_far to → min now (least_walked next m to) ≡ min so_far (least_walked next n at)
  least_on n m at to so_far now more is low made =
      let step : least_walked next n at ≡ min at (least_walked next m to) =
      ap (λ (k : ℕ). least_walked next k at) more ∙ ap (λ (o : Option ℕ). option_map_or (λ k. min at (least_walked next m k)) o at) is in
      omega (arith, step, least_le m to, low, made)

-- a rank that is not of the group, or has come to the barrier, is passed over
module _ (keys : ℕ → ℕ → ℕ) (ends : List Ended) (comm rank number other : ℕ) (here : other ≡ number) where
  pub not_member : (b : Bool) → b ≡ is_with (keys comm) rank other → b ≡ false → is_absent_from keys ends comm rank number ≡ false
  not_member b is fails =
      ap (is_absent_from keys ends comm rank) (sym here)
      ∙ ap (λ (x : Bool). x && not (ended_at_barrier comm (ended_at ends other).end)) (sym is ∙ fails)

  pub not_absent : (b : Bool) → b ≡ ended_at_barrier comm (ended_at ends other).end → b ≡ true → is_absent_from keys ends comm rank number ≡ false
  not_absent b is holds =
      ap (is_absent_from keys ends comm rank) (sym here)
      ∙ ap (λ (x : Bool). is_with (keys comm) rank other && not x) (sym is ∙ holds)
      ∙ none (is_with (keys comm) rank other)
    where
      none : (a : Bool) → (a && false) ≡ false
      none true = refl
      none false = refl

pub still_first : (test : ℕ → Bool) (n number : ℕ) (whole : Option ℕ) → number < n → test number ≡ false → first_from test (n - number) number ≡ whole → first_from test (n - (number + 1)) (number + 1) ≡ whole
still_first test n number whole low fails left =
    sym (first_past test (n - number) (n - (number + 1)) number (omega (arith, low)) fails) ∙ left

-- the cause that a walk comes to
pub cause_is : (next : ℕ → Option ℕ) (ends : List Ended) (nue rank last on : ℕ) (why : Cause) → length ends ≡ nue → Some on ≡ next rank → last ≡ after_steps next nue rank → why ≡ cause_at next ends last (next last)
    → Some why ≡ option_map (λ k. cause_of next ends rank) (next rank)
cause_is next ends nue rank last on why many waits walk is =
    ap Some (is ∙ ap (λ (k : ℕ). cause_at next ends k (next k)) (walk ∙ ap (λ (n : ℕ). after_steps next n rank) (sym many)))
    ∙ ap (option_map (λ (k : ℕ). cause_of next ends rank)) waits

-- one rank more
pub found_more : (keys : ℕ → ℕ → ℕ) (ends : List Ended) (number rank : ℕ) (trouble : Trouble) (before after : List Found) → before ≡ map (found_at keys ends) (range_with_len 0 number) → rank ≡ number → trouble ≡ trouble_of keys ends rank
    → after ≡ before ++ record { rank = rank; trouble = trouble } ∷ [] → after ≡ map (found_at keys ends) (range_with_len 0 (number + 1))
found_more keys ends number rank trouble before after was here is now =
    now ∙ ap (λ (t : Trouble). before ++ record { rank = rank; trouble = t } ∷ []) is
    ∙ ap (λ (l : List Found). l ++ found_at keys ends rank ∷ []) was
    ∙ ap (λ (r : ℕ). map (found_at keys ends) (range_with_len 0 number) ++ found_at keys ends r ∷ []) here
    ∙ sym (map-range_with_len_more (found_at keys ends) 0 number number (omega arith))
