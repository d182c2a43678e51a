use Rattle.std.proofs.Common.{List, ℕ, decimal, subst}
use Rattle.rcce_io.specs.Sending.{Sends}
use Rattle.rcce_audit.proofs.TextLemmas.{barrier_pieces}
use Rattle.rcce_audit.proofs.writing.write_barrier.Goals as goal

pub returns : goal.returns
returns g c =
    subst (λ (t : List ℕ). Sends t (g.S.Sink.seen c.args.sink.now) (g.S.Sink.seen c.write_texts.new.sink) c.write_texts.result)
    (barrier_pieces (decimal c.args.rank) (decimal c.args.comm)) c.write_texts.ensures
