use Rattle.std.proofs.Common.{List, ℕ, decimal, subst}
use Rattle.rcce_io.specs.Sending.{Sends}
use Rattle.rcce_audit.proofs.TextLemmas.{split_pieces}
use Rattle.rcce_audit.proofs.writing.write_split.Goals as goal

pub returns : goal.returns
returns g c =
    subst (λ (t : List ℕ). Sends t (g.S.Sink.seen c.args.sink.now) (g.S.Sink.seen c.write_texts.new.sink) c.write_texts.result)
    (split_pieces (decimal c.args.comm) (decimal c.args.parent) c.args.how.now (decimal c.args.k)) c.write_texts.ensures
