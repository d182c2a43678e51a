use Rattle.std.proofs.Common.{◌≤◌, ℕ, List, length, subst, sym}
use Rattle.trace_text.specs.Traces.{most_trace_bytes}
use Rattle.trace_text.proofs.ProgressLemmas.{walked_few}
use Rattle.trace_text.proofs.walks.TraceWalk.finish.Goals as goal

pub finish-requires : goal.finish-requires
finish-requires c =
    let w = c.self.inside in
    record { few = walked_few w.text.items w.walk (subst (λ (l : List ℕ). length l ≤ most_trace_bytes) (sym c.self.view_is) c.requires.within) c.self.invariant }
