use Rattle.std.proofs.Common.{ℕ, List, ◌++◌, codes, subst}
use Rattle.rcce_io.specs.Sending.{Sends}
use Rattle.rcce_io.proofs.SendingLemmas.{cut_after, cut_then, sends_after, sends_err}
use Rattle.rcce_io.specs.Digits.{hex_text}
use Rattle.run_program.specs.Texts.{item_front}
use Rattle.run_program.proofs.LineLemmas.{front-then}
use Rattle.run_program.proofs.items.write_hex_line.Goals as goal

pub returns-in_err-write_front : goal.returns-in_err-write_front
returns-in_err-write_front g c =
    subst (λ (t : List ℕ). Sends t (g.S.Sink.seen c.args.sink.now) (g.S.Sink.seen c.write_front.new.sink) c.from_residual.result)
    (front-then c.args.rank c.args.name.now (hex_text c.args.bytes.now ++ codes "\n"))
    (sends_err _ _ _ _ c.from_residual.ensures.0
    (cut_then (g.S.Sink.seen c.args.sink.now) (g.S.Sink.seen c.write_front.new.sink) (item_front c.args.rank c.args.name.now) (hex_text c.args.bytes.now ++ codes "\n") c.in_err-write_front.ensures))

pub returns-in_err-write_hex : goal.returns-in_err-write_hex
returns-in_err-write_hex g c =
    subst (λ (t : List ℕ). Sends t (g.S.Sink.seen c.args.sink.now) (g.S.Sink.seen c.write_hex.new.sink) c.from_residual-in_err-write_hex.result)
    (front-then c.args.rank c.args.name.now (hex_text c.args.bytes.now ++ codes "\n"))
    (sends_err _ _ _ _ c.from_residual-in_err-write_hex.ensures.0
    (cut_after (g.S.Sink.seen c.args.sink.now) (g.S.Sink.seen c.write_front.new.sink) (g.S.Sink.seen c.write_hex.new.sink) (item_front c.args.rank c.args.name.now) (hex_text c.args.bytes.now ++ codes "\n")
    c.in_ok-write_front.ensures
    (cut_then (g.S.Sink.seen c.write_front.new.sink) (g.S.Sink.seen c.write_hex.new.sink) (hex_text c.args.bytes.now) (codes "\n") c.in_err-write_hex.ensures)))

pub returns : goal.returns
returns g c =
    subst (λ (t : List ℕ). Sends t (g.S.Sink.seen c.args.sink.now) (g.S.Sink.seen c.write_all.new.sink) c.write_all.result)
    (front-then c.args.rank c.args.name.now (hex_text c.args.bytes.now ++ codes "\n"))
    (sends_after (g.S.Sink.seen c.args.sink.now) (g.S.Sink.seen c.write_front.new.sink) (g.S.Sink.seen c.write_all.new.sink) (item_front c.args.rank c.args.name.now) (hex_text c.args.bytes.now ++ codes "\n") c.write_all.result
    c.in_ok-write_front.ensures
    (sends_after (g.S.Sink.seen c.write_front.new.sink) (g.S.Sink.seen c.write_hex.new.sink) (g.S.Sink.seen c.write_all.new.sink) (hex_text c.args.bytes.now) (codes "\n") c.write_all.result
    c.in_ok-write_hex.ensures c.write_all.ensures))
