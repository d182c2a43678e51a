use Rattle.std.proofs.Common.{◌≡◌, [], ◌++◌, ◌∙◌, length, ap, rules}
use Rattle.rcce_io.specs.Sending.{with_text}
use Rattle.rcce_io.proofs.SendingLemmas.{cut_grown, front_kept, gathers_err, gathers_through}
use Rattle.rcce_io.proofs.buffer.Buffer.gather.Goals as goal

pub returns-in_err-flush-in-Err : goal.returns-in_err-flush-in-Err
returns-in_err-flush-in-Err g c =
    let cut = c.in-Err.ensures in
    let grown : c.write_to.new.sink.bytes.items ≡ c.args.self.now ++ cut.front = cut_grown _ _ cut.front 18446744073709551615 _ cut.left ∙ ap (λ t. t ++ cut.front) c.self.view_is in
    let size : c.len-waiting.result ≡ length c.args.self.now = c.len-waiting.ensures.value ∙ ap length c.self.view_is in
    let kept : c.truncate.new.self.items ≡ c.args.self.now = front_kept _ _ cut.front _ _ grown size c.truncate.ensures.items in
    gathers_err _ _ _ c.args.self.now c.flush.new.self c.from_residual.result c.from_residual.ensures.0 (rw kept at c.in_err-flush-in-Err.ensures.sends)

pub returns : goal.returns
returns g c =
    let cut = c.in-Err.ensures in
    let grown : c.write_to.new.sink.bytes.items ≡ c.args.self.now ++ cut.front = cut_grown _ _ cut.front 18446744073709551615 _ cut.left ∙ ap (λ t. t ++ cut.front) c.self.view_is in
    let size : c.len-waiting.result ≡ length c.args.self.now = c.len-waiting.ensures.value ∙ ap length c.self.view_is in
    let kept : c.truncate.new.self.items ≡ c.args.self.now = front_kept _ _ cut.front _ _ grown size c.truncate.ensures.items in
    let emptied : c.flush.new.self ≡ [] = search rules in
    let sent : g.S.Sink.seen c.flush.new.sink ≡ with_text c.truncate.new.self.items (g.S.Sink.seen c.args.sink.now) = search rules in
    gathers_through (g.S.Sink.seen c.args.sink.now) (g.S.Sink.seen c.flush.new.sink) _ _ c.args.self.now c.flush.new.self c.write_to-2.result
    emptied (rw kept at sent) c.write_to-2.ensures
