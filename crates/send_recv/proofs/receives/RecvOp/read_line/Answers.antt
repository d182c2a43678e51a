use Rattle.std.proofs.Common.{◌≡◌, ◌≢◌, ℕ, Bool, refl, sym, ◌∙◌, ap, subst, if◌then◌else◌, ne_eqb, rules}
use Rattle.put_get.specs.Cores.{Private}
use Rattle.send_recv.specs.Steps.{with_empty_cache, before_line}
use Rattle.send_recv.proofs.receives.RecvOp.read_line.Goals.{then-line-eq0, else-line-eq0}
use Rattle.send_recv.proofs.receives.RecvOp.read_line.Goals as goal

-- Answered by name, so that the branch before the read is split once, and not in each search.

-- the cache was emptied before the first line, and before no other
at_first : (line : ℕ) (c d : Private) → line ≡ 0 → d ≡ with_empty_cache c → d ≡ before_line line c
at_first line c d first is = is ∙ subst (λ (x : ℕ). with_empty_cache c ≡ before_line x c) (sym first) refl

at_later : (line : ℕ) (c d : Private) → line ≢ 0 → d ≡ c → d ≡ before_line line c
at_later line c d later is = is ∙ ap (λ (b : Bool). if b then with_empty_cache c else c) (sym (ne_eqb line 0 later))

pub returns-clause-reads : goal.returns-clause-reads
returns-clause-reads g c =
    let before : c.if-line-eq0.core ≡ before_line c.args.line c.args.core.now = elim c.if-line-eq0.branch [
      | then-line-eq0 w ↦ at_first c.args.line c.args.core.now _ w.if-line-eq0.true (w.core-is ∙ w.cl1invmb.ensures)
      | else-line-eq0 w ↦ at_later c.args.line c.args.core.now _ w.if-line-eq0.false w.core-is
    ] in
    search (rules, before)
