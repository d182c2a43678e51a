use Rattle.std.proofs.Common.{◌≡◌, ℕ, List, length, subst, ◌∙◌, arith}
use Rattle.rcce_io.specs.Sending.{Sends}
use Rattle.run_program.proofs.ValueLemmas.{rest_of}
use Rattle.run_program.proofs.values.write_block.Goals as goal

pub returns : goal.returns
returns g c =
    let put = c.put_values-at in
    let long : length put.new.text ≡ 2016 = omega arith in
    let P : List ℕ → Type 0 = λ text. Sends text (g.S.Sink.seen c.args.sink.now) (g.S.Sink.seen c.write_all.new.sink) c.write_all.result in
    subst P (rest_of 2016 put.result put.new.text long ∙ put.ensures.written) c.write_all.ensures
