use Rattle.std.proofs.Common.{◌≡◌, ◌∙◌, ℕ, ◌<◌, ◌+◌, suc, Bool, false, true, List, Some, add-one, ap, cond, drop, drop-cons, get_or, length, refl, sym}
use Rattle.std.proofs.lemmas.List.{at_drop_all}
use Rattle.std.specs.List.{find}
use Rattle.script_rules.specs.declared.fault.FaultKind.{FaultKind}
use Rattle.script_reader.specs.Progress.{fault_table, has_fault}
use Rattle.script_reader.proofs.reader.Reader.first_fault.Goals as goal

-- a search goes on after an element that fails
afterwards : (test : FaultKind → Bool) (kinds : List FaultKind) (i : ℕ) (d : FaultKind) → i < length kinds → test (get_or kinds i d) ≡ false → find test (drop (i + 1) kinds) ≡ find test (drop i kinds)
afterwards test kinds i d below fails =
    let here = ap (find test) (drop-cons kinds i d below) in
    let on = ap (λ (b : Bool). cond b (Some (get_or kinds i d)) (find test (drop (suc i) kinds))) fails in
    ap (λ (n : ℕ). find test (drop n kinds)) (add-one i) ∙ sym (here ∙ on)

-- and ends at one that passes
at : (test : FaultKind → Bool) (kinds : List FaultKind) (i : ℕ) (d : FaultKind) → i < length kinds → test (get_or kinds i d) ≡ true → Some (get_or kinds i d) ≡ find test (drop i kinds)
at test kinds i d below passes =
    sym (ap (find test) (drop-cons kinds i d below) ∙ ap (λ (b : Bool). cond b (Some (get_or kinds i d)) (find test (drop (suc i) kinds))) passes)

pub loop-kind-init : goal.loop-kind-init
loop-kind-init c = refl

pub loop-kind-preserved : goal.loop-kind-preserved
loop-kind-preserved c =
    afterwards (has_fault c.args.self.now c.args.effect.now) fault_table c.loop-kind.kind-index _ c.loop-kind-test.true (sym c.has_fault.ensures ∙ c.if-has_fault.false) ∙ c.loop-kind.invariant

pub returns-then-has_fault : goal.returns-then-has_fault
returns-then-has_fault c =
    at (has_fault c.args.self.now c.args.effect.now) fault_table c.loop-kind.kind-index _ c.loop-kind-test.true (sym c.has_fault.ensures ∙ c.if-has_fault.true) ∙ c.loop-kind.invariant

pub returns : goal.returns
returns c = sym (at_drop_all (find (has_fault c.args.self.now c.args.effect.now)) fault_table c.loop-kind.kind-index c.loop-kind-test.false) ∙ c.loop-kind.invariant
