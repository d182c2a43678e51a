use Rattle.std.proofs.Common.{ℕ, List, ◌++◌, codes, subst}
use Rattle.rcce_io.specs.Sending.{Sends}
use Rattle.rcce_io.proofs.SendingLemmas.{cut_after, cut_then, sends_after, sends_err}
use Rattle.run_program.specs.Texts.{item_front, type_text, values_text}
use Rattle.run_program.proofs.LineLemmas.{front-then}
use Rattle.run_program.proofs.items.write_values_line.Goals as goal

pub returns-in_err-write_front : goal.returns-in_err-write_front
returns-in_err-write_front g c =
    let values = values_text c.args.ty c.args.bytes.now in
    subst (λ (t : List ℕ). Sends t (g.S.Sink.seen c.args.sink.now) (g.S.Sink.seen c.write_front.new.sink) c.from_residual.result)
    (front-then c.args.rank c.args.name.now (type_text c.args.ty ++ (values_text c.args.ty c.args.bytes.now ++ codes "\n")))
    (sends_err _ _ _ _ c.from_residual.ensures.0
    (cut_then (g.S.Sink.seen c.args.sink.now) (g.S.Sink.seen c.write_front.new.sink) (item_front c.args.rank c.args.name.now) (type_text c.args.ty ++ (values ++ codes "\n")) c.in_err-write_front.ensures))

pub returns-in_err-write_all : goal.returns-in_err-write_all
returns-in_err-write_all g c =
    let values = values_text c.args.ty c.args.bytes.now in
    subst (λ (t : List ℕ). Sends t (g.S.Sink.seen c.args.sink.now) (g.S.Sink.seen c.write_all.new.sink) c.from_residual-in_err-write_all.result)
    (front-then c.args.rank c.args.name.now (type_text c.args.ty ++ (values_text c.args.ty c.args.bytes.now ++ codes "\n")))
    (sends_err _ _ _ _ c.from_residual-in_err-write_all.ensures.0
    (cut_after (g.S.Sink.seen c.args.sink.now) (g.S.Sink.seen c.write_front.new.sink) (g.S.Sink.seen c.write_all.new.sink) (item_front c.args.rank c.args.name.now) (type_text c.args.ty ++ (values ++ codes "\n"))
    c.in_ok-write_front.ensures
    (cut_then (g.S.Sink.seen c.write_front.new.sink) (g.S.Sink.seen c.write_all.new.sink) (type_text c.args.ty) (values ++ codes "\n") (rw (c.as_bytes.ensures.value, c.type_text.ensures) at c.in_err-write_all.ensures))))

pub returns-in_err-write_values : goal.returns-in_err-write_values
returns-in_err-write_values g c =
    let values = values_text c.args.ty c.args.bytes.now in
    subst (λ (t : List ℕ). Sends t (g.S.Sink.seen c.args.sink.now) (g.S.Sink.seen c.write_values.new.sink) c.from_residual-in_err-write_values.result)
    (front-then c.args.rank c.args.name.now (type_text c.args.ty ++ (values_text c.args.ty c.args.bytes.now ++ codes "\n")))
    (sends_err _ _ _ _ c.from_residual-in_err-write_values.ensures.0
    (cut_after (g.S.Sink.seen c.args.sink.now) (g.S.Sink.seen c.write_front.new.sink) (g.S.Sink.seen c.write_values.new.sink) (item_front c.args.rank c.args.name.now) (type_text c.args.ty ++ (values ++ codes "\n"))
    c.in_ok-write_front.ensures
    (cut_after (g.S.Sink.seen c.write_front.new.sink) (g.S.Sink.seen c.write_all.new.sink) (g.S.Sink.seen c.write_values.new.sink) (type_text c.args.ty) (values ++ codes "\n")
    (rw (c.as_bytes.ensures.value, c.type_text.ensures) at c.in_ok-write_all.ensures)
    (cut_then (g.S.Sink.seen c.write_all.new.sink) (g.S.Sink.seen c.write_values.new.sink) values (codes "\n") c.in_err-write_values.ensures))))

pub returns : goal.returns
returns g c =
    let values = values_text c.args.ty c.args.bytes.now in
    let last = c.write_all-2 in
    subst (λ (t : List ℕ). Sends t (g.S.Sink.seen c.args.sink.now) (g.S.Sink.seen c.write_all-2.new.sink) c.write_all-2.result)
    (front-then c.args.rank c.args.name.now (type_text c.args.ty ++ (values_text c.args.ty c.args.bytes.now ++ codes "\n")))
    (sends_after (g.S.Sink.seen c.args.sink.now) (g.S.Sink.seen c.write_front.new.sink) (g.S.Sink.seen last.new.sink) (item_front c.args.rank c.args.name.now) (type_text c.args.ty ++ (values ++ codes "\n")) last.result
    c.in_ok-write_front.ensures
    (sends_after (g.S.Sink.seen c.write_front.new.sink) (g.S.Sink.seen c.write_all.new.sink) (g.S.Sink.seen last.new.sink) (type_text c.args.ty) (values ++ codes "\n") last.result
    (rw (c.as_bytes.ensures.value, c.type_text.ensures) at c.in_ok-write_all.ensures)
    (sends_after (g.S.Sink.seen c.write_all.new.sink) (g.S.Sink.seen c.write_values.new.sink) (g.S.Sink.seen last.new.sink) values (codes "\n") last.result
    c.in_ok-write_values.ensures last.ensures)))
