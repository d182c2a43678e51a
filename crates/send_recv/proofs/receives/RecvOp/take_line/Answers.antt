use Rattle.std.proofs.Common.{◌≡◌, ℕ, ◌+◌, ◌*◌, ◌<◌, ◌≤◌, ◌∙◌, ap, subst, sym, length, slice_index, rules}
use Rattle.scc_base.specs.Layouts.{chunk_size}
use Rattle.send_recv.specs.Bytes.{byte_of_line}
use Rattle.send_recv.specs.Chunks.{chunk_start}
use Rattle.send_recv.specs.Ops.{RecvAt}
use Rattle.send_recv.proofs.receives.RecvOp.take_line.Goals as goal

-- Names the goal, so that the prover rejects a wrong body at once, without a search.

-- where the line stands in the message
start_is : (size line start : ℕ) (now op : RecvAt) → start ≡ chunk_start size now.chunk → now ≡ op → start + 32 * line ≡ chunk_start size op.chunk + 32 * line
start_is size line start now op is seen = ap (λ (x : ℕ). x + 32 * line) (is ∙ ap (λ (x : RecvAt). chunk_start size x.chunk) seen)

pub returns-clause-takes : goal.returns-clause-takes
returns-clause-takes c =
    subst (λ (x : ℕ). (k : ℕ) → k < 32 → x + k < length c.args.bytes.now → slice_index c.put_line.new.bytes (x + k) ≡ byte_of_line c.args.words.now k)
    (start_is (chunk_size c.args.layout) c.args.line c.start_of.result _ c.args.self.now c.start_of.ensures.gives c.self.view_is) c.put_line.ensures.put

pub returns-clause-before : goal.returns-clause-before
returns-clause-before c =
    let start = start_is (chunk_size c.args.layout) c.args.line c.start_of.result _ c.args.self.now c.start_of.ensures.gives c.self.view_is in
    λ k at. c.put_line.ensures.before k (subst (λ (x : ℕ). k < x) (sym start) at)

pub returns-clause-afterwards : goal.returns-clause-afterwards
returns-clause-afterwards c =
    let start = start_is (chunk_size c.args.layout) c.args.line c.start_of.result _ c.args.self.now c.start_of.ensures.gives c.self.view_is in
    λ k at. c.put_line.ensures.afterwards k (subst (λ (x : ℕ). x + 32 ≤ k) (sym start) at)

pub returns-clause-next : goal.returns-clause-next
returns-clause-next c = search rules
