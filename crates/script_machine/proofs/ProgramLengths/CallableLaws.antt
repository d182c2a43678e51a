-- Each collective call of a script that was read may be made by the ranks of its section.
use Rattle.std.proofs.Common.{◌≡◌, ℕ, ◌<◌, ◌≤◌, Bool, true, false, not, ◌&&◌, Some, arith, refl, subst, slice_get}
use Rattle.std.proofs.lemmas.Bool.{le-leb, lt-ltb, not-false}
use Rattle.std.proofs.lemmas.Option.{same_Some}
use Rattle.std.specs.Prelude.{nat_le, nat_lt}
use Rattle.groups.specs.Collectives.{comm_of, len_of}
use Rattle.groups.specs.declared.collectives.Coll.{Coll}
use Rattle.groups.specs.declared.collectives.Coll.TheVariants as coll
use Rattle.scc_base.specs.Communicators.{rule_of}
use Rattle.scc_base.specs.Setups.{size_of}
use Rattle.scc_base.specs.declared.communicators.CommRule.{CommRule}
use Rattle.scc_base.specs.declared.communicators.CommRule.TheVariants as rule
use Rattle.script_rules.specs.Checks.{has_no_root, has_root, is_absent, is_past_group}
use Rattle.script_rules.specs.Effects.{comm_needed, effect_of}
use Rattle.script_rules.specs.Script.{IsSized, Script, has_rank, rules_of}
use Rattle.script_rules.specs.Settled.{IsSettled, IsWholeScript, run_with}
use Rattle.script_rules.specs.declared.script.Item.{Item}
use Rattle.script_rules.specs.declared.script.Stmt.{Stmt}
use Rattle.script_rules.specs.declared.script.Stmt.TheVariants as stmt
use Rattle.script_machine.proofs.ProgramLengths.LengthLemmas.{at-found}
use Rattle.script_rules.proofs.SettledLemmas.{present-low}
use Rattle.script_machine.specs.declared.prims.Collective.{Collective}
use Rattle.script_machine.specs.Program.{can_call, collective_of, setup_of}
use Rattle.script_machine.proofs.Choices as choices

-- a rule that is there
pub known : (r : CommRule) → (r ≡ rule.Absent → ⊥) → not (is_absent r) ≡ true
known rule.Absent there = absurd (there refl)
known rule.World there = refl
known (rule.Mod parent k) there = refl
known (rule.Div parent k) there = refl

-- where its groups are known, a root that is not past them is in them
rooted_by : (r : CommRule) (within : Bool) → (r ≡ rule.Absent → ⊥) → (not (is_absent r) && not within) ≡ false → within ≡ true
rooted_by rule.Absent within there none = absurd (there refl)
rooted_by rule.World within there none = not-false within none
rooted_by (rule.Mod parent k) within there none = not-false within none
rooted_by (rule.Div parent k) within there none = not-false within none

module _ (script : Script) (rank : ℕ) (below : rank < script.nue) where
  may_call : (c : Coll) → comm_of c < 16 → (rule_of (rules_of script.items) (comm_of c) ≡ rule.Absent → ⊥) → len_of c ≤ 65536 → has_root (setup_of script) rank c ≡ true → can_call (setup_of script) rank c ≡ true
  may_call c low there short rooted =
      choices.and_of (nat_lt (comm_of c) 16 && not (is_absent (rule_of (rules_of script.items) (comm_of c))) && nat_le (len_of c) 65536 && nat_lt rank script.nue) (has_root (setup_of script) rank c)
      (choices.and_of (nat_lt (comm_of c) 16 && not (is_absent (rule_of (rules_of script.items) (comm_of c))) && nat_le (len_of c) 65536) (nat_lt rank script.nue)
      (choices.and_of (nat_lt (comm_of c) 16 && not (is_absent (rule_of (rules_of script.items) (comm_of c)))) (nat_le (len_of c) 65536)
      (choices.and_of (nat_lt (comm_of c) 16) (not (is_absent (rule_of (rules_of script.items) (comm_of c)))) (lt-ltb (comm_of c) 16 low) (known (rule_of (rules_of script.items) (comm_of c)) there))
      (le-leb (len_of c) 65536 short))
      (lt-ltb rank script.nue below))
      rooted

  in_group : (comm root : ℕ) → (rule_of (rules_of script.items) comm ≡ rule.Absent → ⊥) → is_past_group (run_with script.nue (rules_of script.items)) comm rank root ≡ false → nat_lt root (size_of (setup_of script) comm rank) ≡ true
  in_group comm root there none = rooted_by (rule_of (rules_of script.items) comm) (nat_lt root (size_of (run_with script.nue (rules_of script.items)) comm rank)) there none

  callable_by : (s : Stmt) (call : Collective) → collective_of s ≡ Some call → IsSized s → (rule_of (rules_of script.items) (comm_needed (effect_of s).group) ≡ rule.Absent → ⊥)
      → has_no_root (run_with script.nue (rules_of script.items)) (effect_of s) rank ≡ false → can_call (setup_of script) rank call.coll ≡ true
  callable_by (stmt.Bcast comm root reg len) call is short there rooted =
      let c : Coll = coll.Bcast comm root len in
      subst (λ (x : Collective). can_call (setup_of script) rank x.coll ≡ true) (same_Some _ call is) (may_call c (present-low script.items comm there) there short (in_group comm root there rooted))
  callable_by (stmt.Reduce comm root op ty dst src) call is short there rooted =
      let c : Coll = coll.Reduce comm root 0 in
      subst (λ (x : Collective). can_call (setup_of script) rank x.coll ≡ true) (same_Some _ call is) (may_call c (present-low script.items comm there) there (omega arith) (in_group comm root there rooted))
  callable_by (stmt.Allreduce comm op ty dst src) call is short there rooted =
      let c : Coll = coll.Allreduce comm 0 in
      subst (λ (x : Collective). can_call (setup_of script) rank x.coll ≡ true) (same_Some _ call is) (may_call c (present-low script.items comm there) there (omega arith) refl)
  callable_by _ call is short there rooted = absurd (cc)

-- a collective call of an item may be made by the ranks of its section
pub callable : (script : Script) → IsWholeScript script.nue script.items → (k : ℕ) (item : Item) (rank : ℕ) → slice_get script.items k ≡ Some item → rank < script.nue → has_rank item.who rank ≡ true
    → (call : Collective) → collective_of item.stmt ≡ Some call → can_call (setup_of script) rank call.coll ≡ true
callable script whole k item rank found below has call is =
    let settled = at-found (IsSettled script.nue (rules_of script.items)) script.items k item whole.settled found in
    callable_by script rank below item.stmt call is (at-found (λ (i : Item). IsSized i.stmt) script.items k item whole.sized found) (settled.present rank below has) (settled.rooted rank below has)
