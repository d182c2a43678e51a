-- What holds up the ranks at the plain end: another rank of the run, or a member that has not come to a barrier.
use Rattle.std.proofs.Common.{◌≡◌, ◌≢◌, ℕ, zero, suc, ◌<◌, Bool, true, false, List, [], ◌∷◌, length, drop, get_or, Option, Some, None, IfSome, refl, sym, ap, ◌∙◌, subst, arith, slice_get, ◌⊎◌, inl, inr, ⊎_elim}
use Rattle.std.specs.Option.{option_map, option_map_or}
use Rattle.std.proofs.lemmas.Bool.{cases_eq, eq-eqb, eqb-true}
use Rattle.std.proofs.lemmas.List.FromFn.{get_or-map-range_with_len, length-map-range_with_len}
use Rattle.std.proofs.lemmas.List.{length-map}
use Rattle.std.proofs.lemmas.Option.{get_or_from_slice_get, slice_get-get_or, slice_get-map, slice_get_within}
use Rattle.groups.specs.Peers.{IsPeer}
use Rattle.scc_base.specs.Groups.{is_with, root_in}
use Rattle.scc_base.specs.Calls.{DataCall}
use Rattle.scc_base.specs.Heads.{MessageHead}
use Rattle.scc_base.proofs.GroupFacts.{root_once, root_with, root_within, with_same, with_true}
use Rattle.script_rules.specs.Script.{Script}
use Rattle.script_rules.specs.Settled.{IsWholeScript}
use Rattle.script_machine.specs.declared.posts.Posted.{Posted}
use Rattle.script_machine.specs.declared.prims.Standing.{Standing}
use Rattle.script_machine.specs.declared.prims.Standing.TheVariants as standing
use Rattle.plain_meaning.specs.Collectives.{start_of_rank}
use Rattle.plain_meaning.specs.Ends.{Ended, end_of_rank, ended_at, nothing_ended}
use Rattle.plain_meaning.specs.HeldUp.{HasCause, IsAwaited, IsExplained, ended_at_barrier}
use Rattle.script_machine.specs.Local.{Local, end_by_prim, end_by_slot, end_by_standing, end_of, local_at, nobody, local_next, next_by_act, next_by_prim, prim_by_standing, end_waiting_at}
use Rattle.plain_meaning.specs.Meaning.{State, keys_of, locals_of, next_of, plain_end, plain_ends, next_with_calls, seen_of, start_of}
use Rattle.script_machine.specs.Next.{Next, call_next, is_at_barrier}
use Rattle.script_machine.specs.Next.Next.{Ends, Goes, Posts, Sends, Recvs, Bars}
use Rattle.script_machine.specs.Program.{Act, Prim}
use Rattle.plain_meaning.specs.Step.{Configuration, all_at_barrier, next_at, slot_at, step_of}
use Rattle.script_machine.proofs.ProgramLengths.AimLemmas.{AreAimed, IsAimedAct, program_aimed}
use Rattle.plain_meaning.proofs.Messages.KeptLaws.{AllKept, KeepsNext, kept_runs}
use Rattle.plain_meaning.proofs.Messages.MessageLaws.{empty_slot, to_plain_end}
use Rattle.plain_meaning.proofs.OwnWays.OwnWayLaws.{start_cell}
use Rattle.plain_meaning.proofs.Runs.PlainLaws.{length-plain_end, plain_end_still}
use Rattle.plain_meaning.proofs.Messages.RestLaws.{ends_length}
use Rattle.plain_meaning.proofs.Runs.RunLaws.{stand_there, still}
use Rattle.plain_meaning.proofs.Runs.StepLaws as steps

module _ (script : Script) (rank : ℕ) where
  -- a rank that a mismatch stopped was to receive from another
  abbrev pub IsPeered : Standing → Type 0
  IsPeered standing.Running = Unit {0}
  IsPeered (standing.Mismatched line from sent asked) = IsPeer script.nue rank from

  -- what is left of a rank's program is aimed at others
  pub record IsAimed (u : Local) : Type 0 where
    pub left : AreAimed script rank u.left
    pub peered : IsPeered u.standing

  -- and so it is after what stands next
  abbrev pub AimedNext : Next Local → Type 0
  AimedNext Ends = Unit {0}
  AimedNext (Goes after) = IsAimed after
  AimedNext (Posts message after) = IsAimed after × IsPeer script.nue rank message.to
  AimedNext (Sends to head bytes after) = IsAimed after × IsPeer script.nue rank to
  AimedNext (Recvs from head take refuse) = ((bytes : List ℕ) → IsAimed (take bytes)) × ((sent : MessageHead) → IsAimed (refuse sent)) × IsPeer script.nue rank from
  AimedNext (Bars comm after) = IsAimed after

  aimed_act : (u : Local) (line : ℕ) (a : Act) → IsAimedAct script rank a → AreAimed script rank (drop 1 u.left) → IsAimed u → AimedNext (next_by_act u line a)
  aimed_act u line (Act.Send to head source) aim on is = (record { left = on; peered = is.peered }, aim.0)
  aimed_act u line (Act.Post to reg) aim on is = (record { left = on; peered = is.peered }, aim)
  aimed_act u line (Act.Recv from reg head) aim on is =
      (λ bytes. record { left = on; peered = is.peered }, λ sent. record { left = is.left; peered = aim.0 }, aim.0)
  aimed_act u line (Act.Gather from head sized) aim on is =
      (λ bytes. record { left = on; peered = is.peered }, λ sent. record { left = is.left; peered = aim.0 }, aim.0)
  aimed_act u line _ aim on is = record { left = on; peered = is.peered }

  aimed_left : (u : Local) (l : List Prim) → u.left ≡ l → AreAimed script rank l → IsAimed u → AimedNext (next_by_prim u (slice_get l 0))
  aimed_left u [] at all is = tt
  aimed_left u (prim ∷ rest) at all is =
      aimed_act u prim.line prim.act all.0 (subst (λ (l : List Prim). AreAimed script rank (drop 1 l)) (sym at) all.1) is

  aimed_standing : (u : Local) (s : Standing) → IsAimed u → AimedNext (next_by_prim u (prim_by_standing s u.left))
  aimed_standing u standing.Running is = aimed_left u u.left refl is.left is
  aimed_standing u (standing.Mismatched line from sent asked) is = tt

  pub aimed_next : (u : Local) → IsAimed u → AimedNext (local_next u)
  unfolding local_next
  aimed_next u is = aimed_standing u u.standing is

  -- a rank of the run, whose program is so
  abbrev pub IsAimedCell : State → Type 0
  IsAimedCell u = (rank < script.nue) × IsAimed u.local

  abbrev pub IsAimedMessage : Posted → Type 0
  IsAimedMessage message = IsPeer script.nue rank message.to

  kept_by : (calls : List DataCall) (n : Next Local) → rank < script.nue → AimedNext n → KeepsNext IsAimedCell IsAimedMessage (next_with_calls calls n)
  kept_by calls Ends below on = tt
  kept_by calls (Goes after) below on = (below, on)
  kept_by calls (Posts message after) below on = ((below, on.0), on.1)
  kept_by calls (Sends to head bytes after) below on = (below, on.0)
  kept_by calls (Recvs from head take refuse) below on = (λ bytes. (below, on.0 bytes), λ sent. (below, on.1 sent))
  kept_by calls (Bars comm after) below on = (below, on)

  pub aimed_keeps : (u : State) → IsAimedCell u → KeepsNext IsAimedCell IsAimedMessage (next_of u)
  aimed_keeps u is = kept_by u.matched (local_next u.local) is.0 (aimed_next u.local is.1)

-- at the plain end each rank's program is aimed at others, and so are the messages in the slots
abbrev AreAllAimed : Script → Configuration State → Type 0
AreAllAimed script c = AllKept (IsAimedCell script) (IsAimedMessage script) (aimed_keeps script) c

start_aimed : (script : Script) → IsWholeScript script.nue script.items → AreAllAimed script (start_of script)
start_aimed script whole = record {
  cells = λ k u at.
      let below : k < script.nue = omega (arith, slice_get_within (start_of script).cells k u at, length-map-range_with_len (start_of_rank script) 0 script.nue) in
      let begun : IsAimed script k (start_of_rank script k).local = record { left = program_aimed script k whole below; peered = tt } in
      (below, subst (λ (v : State). IsAimed script k v.local) (start_cell script k u at) begun);
  slots = λ k message at. absurd (let none : None ≡ Some message = sym (empty_slot script.nue k) ∙ at in cc);
}

end_aimed : (script : Script) → IsWholeScript script.nue script.items → AreAllAimed script (plain_end script)
end_aimed script whole =
    let way = to_plain_end script in
    kept_runs (IsAimedCell script) (IsAimedMessage script) (aimed_keeps script) (keys_of script) way.0 (start_of script) (plain_end script) way.1 (start_aimed script whole)

-- a rank ended at a barrier exactly where one stands next
barrier_act : (comm : ℕ) (u : Local) (line : ℕ) (a : Act) → ended_at_barrier comm (end_waiting_at line (call_next (next_by_act u line a))) ≡ is_at_barrier comm (next_by_act u line a)
barrier_act comm u line (Act.Bar asked) = refl
barrier_act comm u line _ = refl

barrier_slot : (comm : ℕ) (slot : Option Posted) → ended_at_barrier comm (end_by_slot slot) ≡ false
barrier_slot comm None = refl
barrier_slot comm (Some message) = refl

barrier_standing : (comm : ℕ) (slot : Option Posted) (u : Local) (s : Standing) (o : Option Prim) → slice_get u.left 0 ≡ o → ended_at_barrier comm (end_by_standing slot u s) ≡ is_at_barrier comm (next_by_prim u (prim_by_standing s u.left))
barrier_standing comm slot u standing.Running None at =
    ap (λ (o : Option Prim). ended_at_barrier comm (end_by_prim slot u o)) at ∙ barrier_slot comm slot ∙ sym (ap (λ (o : Option Prim). is_at_barrier comm (next_by_prim u o)) at)
barrier_standing comm slot u standing.Running (Some prim) at =
    ap (λ (o : Option Prim). ended_at_barrier comm (end_by_prim slot u o)) at ∙ barrier_act comm u prim.line prim.act ∙ sym (ap (λ (o : Option Prim). is_at_barrier comm (next_by_prim u o)) at)
barrier_standing comm slot u (standing.Mismatched line from sent asked) o at = refl

barrier_local : (comm : ℕ) (slot : Option Posted) (u : Local) → ended_at_barrier comm (end_of slot u) ≡ is_at_barrier comm (local_next u)
unfolding local_next
barrier_local comm slot u = barrier_standing comm slot u u.standing (slice_get u.left 0) refl

-- among the first ranks one that passes the first test and not the second, or none does
search_below : (test there : ℕ → Bool) (n : ℕ) → ((k : ℕ) × (k < n) × (test k ≡ true) × (there k ≡ false)) ⊎ ((k : ℕ) → k < n → test k ≡ true → there k ≡ true)
search_below test there zero = inr (λ k below is. absurd (omega (arith, below)))
search_below test there (suc n) = by (search_below test there n) (test n) (there n) refl refl
  where
    last : (p : test n ≡ true → there n ≡ true) → ((k : ℕ) → k < n → test k ≡ true → there k ≡ true) → (k : ℕ) → k < suc n → test k ≡ true → there k ≡ true
    last p all k below is =
        ⊎_elim
        (λ (same : k ≡ n). subst (λ (m : ℕ). there m ≡ true) (sym same) (p (subst (λ (m : ℕ). test m ≡ true) same is)))
        (λ (other : k ≢ n). all k (omega (arith, below, other)) is)
        (cases_eq k n)

    by : ((k : ℕ) × (k < n) × (test k ≡ true) × (there k ≡ false)) ⊎ ((k : ℕ) → k < n → test k ≡ true → there k ≡ true) → (a b : Bool) → test n ≡ a → there n ≡ b
        → ((k : ℕ) × (k < suc n) × (test k ≡ true) × (there k ≡ false)) ⊎ ((k : ℕ) → k < suc n → test k ≡ true → there k ≡ true)
    by (inl found) a b is at = inl (found.0, omega (arith, found.1), found.2, found.3)
    by (inr all) true false is at = inl (n, omega arith, is, at)
    by (inr all) true true is at = inr (last (λ p. at) all)
    by (inr all) false b is at = inr (last (λ p. absurd (let e : false ≡ true = sym is ∙ p in cc)) all)

-- what stands at a rank of a configuration, by its number
local_here : (script : Script) (k : ℕ) (u : State) → slice_get (plain_end script).cells k ≡ Some u → local_at (seen_of (plain_end script)).cells k ≡ u.local
local_here script k u at =
    get_or_from_slice_get (locals_of (plain_end script)) k u.local nobody
    (slice_get-map (λ (v : State). v.local) (plain_end script).cells k ∙ ap (option_map (λ (v : State). v.local)) at)

ended_here : (script : Script) (k : ℕ) → k < script.nue → ended_at (plain_ends script) k ≡ end_of_rank (slot_at (plain_end script) k) (local_at (seen_of (plain_end script)).cells k)
ended_here script k below =
    get_or-map-range_with_len (λ (rank : ℕ). end_of_rank (slot_at (plain_end script) rank) (local_at (seen_of (plain_end script)).cells rank)) 0 (length (seen_of (plain_end script)).cells) k k nothing_ended
    (omega (arith, below, length-plain_end script)) (omega arith)

recorded_barrier : (comm : ℕ) (calls : List DataCall) (n : Next Local) → is_at_barrier comm (next_with_calls calls n) ≡ is_at_barrier comm n
recorded_barrier comm calls Ends = refl
recorded_barrier comm calls (Goes after) = refl
recorded_barrier comm calls (Posts message after) = refl
recorded_barrier comm calls (Sends to head bytes after) = refl
recorded_barrier comm calls (Recvs from head take refuse) = refl
recorded_barrier comm calls (Bars asked after) = refl

many_ends : (script : Script) → length (plain_ends script) ≡ script.nue
many_ends script = ends_length (seen_of (plain_end script)) ∙ length-plain_end script

module _ (script : Script) where
  abbrev there : ℕ → ℕ → Bool
  there comm k = ended_at_barrier comm (ended_at (plain_ends script) k).end

  cell_count : length (plain_end script).cells ≡ script.nue
  cell_count = sym (length-map (plain_end script).cells (λ (u : State). u.local)) ∙ length-plain_end script

  stands_by : (comm k : ℕ) (u : State) → slice_get (plain_end script).cells k ≡ Some u → there comm k ≡ is_at_barrier comm (next_of u)
  stands_by comm k u at =
      let below : k < script.nue = omega (arith, slice_get_within (plain_end script).cells k u at, cell_count) in
      ap (λ (e : Ended). ended_at_barrier comm e.end) (ended_here script k below)
      ∙ ap (λ (v : Local). ended_at_barrier comm (end_of (slot_at (plain_end script) k) v)) (local_here script k u at)
      ∙ barrier_local comm (slot_at (plain_end script) k) u.local
      ∙ sym (recorded_barrier comm u.matched (local_next u.local))

  -- were all members there, they would go on
  goes_on_by : (comm root : ℕ) (n : Next State) → is_at_barrier comm n ≡ true → next_at next_of (plain_end script) root ≡ n → root_in (keys_of script comm) root ≡ root
      → all_at_barrier next_of comm (is_with (keys_of script comm) root) (plain_end script).cells ≡ true → step_of (keys_of script) next_of (plain_end script) root ≡ None → ⊥
  goes_on_by comm root Ends is at mine all none = cc
  goes_on_by comm root (Goes after) is at mine all none = cc
  goes_on_by comm root (Posts message after) is at mine all none = cc
  goes_on_by comm root (Sends to head bytes after) is at mine all none = cc
  goes_on_by comm root (Recvs from head take refuse) is at mine all none = cc
  goes_on_by comm root (Bars asked after) is at mine all none =
      let same : asked ≡ comm = eqb-true asked comm is in
      let stands : next_at next_of (plain_end script) root ≡ Bars comm after = at ∙ ap (λ (m : ℕ). Bars m after) same in
      let taken = steps.answered (keys_of script) next_of (plain_end script) _ root (steps.Takes.Passed comm after stands mine all refl) in
      let both : None ≡ Some _ = sym none ∙ taken in
      cc

  member_absent : (comm rank : ℕ) → rank < script.nue → there comm rank ≡ true → (k : ℕ) × IsAwaited (keys_of script) (plain_ends script) comm rank k
  member_absent comm rank below here =
      by (search_below (is_with (keys_of script comm) rank) (there comm) script.nue)
    where
      by : ((k : ℕ) × (k < script.nue) × (is_with (keys_of script comm) rank k ≡ true) × (there comm k ≡ false)) ⊎ ((k : ℕ) → k < script.nue → is_with (keys_of script comm) rank k ≡ true → there comm k ≡ true)
          → (k : ℕ) × IsAwaited (keys_of script) (plain_ends script) comm rank k
      by (inl found) = (found.0, record { below = omega (arith, found.1, many_ends script); member = found.2; absent = found.3 })
      by (inr all) =
          let low : (root_in (keys_of script comm) rank) < script.nue = omega (arith, root_within (keys_of script comm) rank, below) in
          let cells = (plain_end script).cells in
          let u = get_or cells (root_in (keys_of script comm) rank) (start_of_rank script 0) in
          let at : slice_get cells (root_in (keys_of script comm) rank) ≡ Some u = slice_get-get_or cells (root_in (keys_of script comm) rank) (start_of_rank script 0) (omega (arith, low, cell_count)) in
          let same : is_with (keys_of script comm) (root_in (keys_of script comm) rank) ≡ is_with (keys_of script comm) rank = with_same (keys_of script comm) (root_in (keys_of script comm) rank) rank (root_with (keys_of script comm) rank) in
          let standing : all_at_barrier next_of comm (is_with (keys_of script comm) rank) cells ≡ true =
          stand_there next_of comm (is_with (keys_of script comm) rank) cells (λ k v member is.
          sym (stands_by comm k v is) ∙ all k (omega (arith, slice_get_within cells k v is, cell_count)) member) in
          let stands : is_at_barrier comm (next_of u) ≡ true = sym (stands_by comm (root_in (keys_of script comm) rank) u at) ∙ all (root_in (keys_of script comm) rank) low (with_true (keys_of script comm) rank (root_in (keys_of script comm) rank) (root_with (keys_of script comm) rank)) in
          absurd (goes_on_by comm (root_in (keys_of script comm) rank) (next_of u) stands (ap (λ (o : Option State). option_map_or next_of o Ends) at)
          (sym (root_once (keys_of script comm) rank (root_in (keys_of script comm) rank) (sym (root_with (keys_of script comm) rank))))
          (ap (λ (test : ℕ → Bool). all_at_barrier next_of comm test cells) same ∙ standing)
          (still (keys_of script) next_of (plain_end script) (plain_end_still script) (root_in (keys_of script comm) rank)))

  -- the cause of an end
  slot_cause : (rank : ℕ) (o : Option Posted) → ((message : Posted) → o ≡ Some message → IsPeer script.nue rank message.to) → HasCause (keys_of script) (plain_ends script) rank (end_by_slot o)
  slot_cause rank None aims = tt
  slot_cause rank (Some message) aims = subst (λ (n : ℕ). IsPeer n rank message.to) (sym (many_ends script)) (aims message refl)

  cause_act : (rank line : ℕ) (u : Local) (a : Act) → IsAimedAct script rank a → ((comm : ℕ) → is_at_barrier comm (next_by_act u line a) ≡ true → (k : ℕ) × IsAwaited (keys_of script) (plain_ends script) comm rank k)
      → HasCause (keys_of script) (plain_ends script) rank (end_waiting_at line (call_next (next_by_act u line a)))
  cause_act rank line u (Act.Send to head source) aim absent = subst (λ (n : ℕ). IsPeer n rank to) (sym (many_ends script)) aim.0
  cause_act rank line u (Act.Post to reg) aim absent = subst (λ (n : ℕ). IsPeer n rank to) (sym (many_ends script)) aim
  cause_act rank line u (Act.Recv from reg head) aim absent = subst (λ (n : ℕ). IsPeer n rank from) (sym (many_ends script)) aim.0
  cause_act rank line u (Act.Gather from head sized) aim absent = subst (λ (n : ℕ). IsPeer n rank from) (sym (many_ends script)) aim.0
  cause_act rank line u (Act.Bar comm) aim absent = absent comm (eq-eqb comm comm refl)
  cause_act rank line u _ aim absent = tt

  cause_left : (rank : ℕ) (slot : Option Posted) (u : Local) (l : List Prim) → u.left ≡ l → AreAimed script rank l → ((message : Posted) → slot ≡ Some message → IsPeer script.nue rank message.to)
      → ((comm : ℕ) → is_at_barrier comm (next_by_prim u (slice_get l 0)) ≡ true → (k : ℕ) × IsAwaited (keys_of script) (plain_ends script) comm rank k)
      → HasCause (keys_of script) (plain_ends script) rank (end_by_prim slot u (slice_get l 0))
  cause_left rank slot u [] at all aims absent = slot_cause rank slot aims
  cause_left rank slot u (prim ∷ rest) at all aims absent = cause_act rank prim.line u prim.act all.0 absent

  cause_standing : (rank : ℕ) (slot : Option Posted) (u : Local) (s : Standing) → AreAimed script rank u.left → IsPeered script rank s → ((message : Posted) → slot ≡ Some message → IsPeer script.nue rank message.to)
      → ((comm : ℕ) → is_at_barrier comm (next_by_prim u (prim_by_standing s u.left)) ≡ true → (k : ℕ) × IsAwaited (keys_of script) (plain_ends script) comm rank k)
      → HasCause (keys_of script) (plain_ends script) rank (end_by_standing slot u s)
  cause_standing rank slot u standing.Running all peered aims absent = cause_left rank slot u u.left refl all aims absent
  cause_standing rank slot u (standing.Mismatched line from sent asked) all peered aims absent = subst (λ (n : ℕ). IsPeer n rank from) (sym (many_ends script)) peered

  cause_local : (rank : ℕ) (slot : Option Posted) (u : Local) → IsAimed script rank u → ((message : Posted) → slot ≡ Some message → IsPeer script.nue rank message.to)
      → ((comm : ℕ) → is_at_barrier comm (local_next u) ≡ true → (k : ℕ) × IsAwaited (keys_of script) (plain_ends script) comm rank k)
      → HasCause (keys_of script) (plain_ends script) rank (end_of slot u)
  unfolding local_next
  cause_local rank slot u is aims absent = cause_standing rank slot u u.standing is.left is.peered aims absent

  slot_way : (rank : ℕ) (o : Option Posted) → ((message : Posted) → o ≡ Some message → IsPeer script.nue rank message.to) → IfSome (option_map (λ (message : Posted). message.to) o) (λ to. IsPeer (length (plain_ends script)) rank to)
  slot_way rank None aims = tt
  slot_way rank (Some message) aims = subst (λ (n : ℕ). IsPeer n rank message.to) (sym (many_ends script)) (aims message refl)

  -- how each rank ended has its cause
  pub explained : IsWholeScript script.nue script.items → (rank : ℕ) → rank < script.nue → IsExplained (keys_of script) (plain_ends script) rank
  explained whole rank below =
      let all = end_aimed script whole in
      let cells = (plain_end script).cells in
      let slot = slot_at (plain_end script) rank in
      let u = get_or cells rank (start_of_rank script 0) in
      let at : slice_get cells rank ≡ Some u = slice_get-get_or cells rank (start_of_rank script 0) (omega (arith, below, cell_count)) in
      let ended_is : ended_at (plain_ends script) rank ≡ end_of_rank slot u.local = ended_here script rank below ∙ ap (end_of_rank slot) (local_here script rank u at) in
      let aims : (message : Posted) → slot ≡ Some message → IsPeer script.nue rank message.to = λ message is. all.slots rank message is in
      record {
        cause = subst (λ (e : Ended). HasCause (keys_of script) (plain_ends script) rank e.end) (sym ended_is)
            (cause_local rank slot u.local (all.cells rank u at).1 aims (λ comm is.
            member_absent comm rank below (stands_by comm rank u at ∙ recorded_barrier comm u.matched (local_next u.local) ∙ is)));
        in_flight = subst (λ (e : Ended). IfSome e.in_flight (λ to. IsPeer (length (plain_ends script)) rank to)) (sym ended_is) (slot_way rank slot aims);
      }
