use Rattle.std.proofs.Common.{◌∙◌}
use Rattle.rcce_io.proofs.SendingLemmas.{sends_err}
use Rattle.trace_writer.specs.Lines.{first_lines}
use Rattle.trace_writer.proofs.LineLaws.{first_end_cut, first_head_cut, first_hosts_cut, first_sent}
use Rattle.trace_writer.proofs.lines.FirstLinesTextSource.write_to.Goals as goal

pub returns-in_err-write_texts : goal.returns-in_err-write_texts
returns-in_err-write_texts g c =
    let s = c.args.self.now.setup.now in
    let v0 = g.S.Sink.seen c.args.sink.now in
    let v1 = g.S.Sink.seen c.write_texts.new.sink in
    let nue = c.from.ensures ∙ c.nue.ensures.gives in
    let head = rw (nue, c.layout_name.ensures, c.layout.ensures.gives) at c.in_err-write_texts.ensures in
    sends_err v0 v1 (first_lines s) _ c.from_residual.ensures.0 (first_head_cut s v0 v1 v1 v1 v1 head)

pub returns-in_err-write_hosts : goal.returns-in_err-write_hosts
returns-in_err-write_hosts g c =
    let s = c.args.self.now.setup.now in
    let v0 = g.S.Sink.seen c.args.sink.now in
    let v1 = g.S.Sink.seen c.write_texts.new.sink in
    let v2 = g.S.Sink.seen c.write_hosts.new.sink in
    let nue = c.from.ensures ∙ c.nue.ensures.gives in
    let head = rw (nue, c.layout_name.ensures, c.layout.ensures.gives) at c.in_ok-write_texts.ensures in
    sends_err v0 v2 (first_lines s) _ c.from_residual-in_err-write_hosts.ensures.0 (first_hosts_cut s v0 v1 v2 v2 v2 head c.in_err-write_hosts.ensures)

pub returns-in_err-write_all : goal.returns-in_err-write_all
returns-in_err-write_all g c =
    let s = c.args.self.now.setup.now in
    let v0 = g.S.Sink.seen c.args.sink.now in
    let v1 = g.S.Sink.seen c.write_texts.new.sink in
    let v2 = g.S.Sink.seen c.write_hosts.new.sink in
    let v3 = g.S.Sink.seen c.write_all.new.sink in
    let nue = c.from.ensures ∙ c.nue.ensures.gives in
    let head = rw (nue, c.layout_name.ensures, c.layout.ensures.gives) at c.in_ok-write_texts.ensures in
    sends_err v0 v3 (first_lines s) _ c.from_residual-in_err-write_all.ensures.0 (first_end_cut s v0 v1 v2 v3 v3 head c.in_ok-write_hosts.ensures c.in_err-write_all.ensures)

pub returns : goal.returns
returns g c =
    let s = c.args.self.now.setup.now in
    let v0 = g.S.Sink.seen c.args.sink.now in
    let v1 = g.S.Sink.seen c.write_texts.new.sink in
    let v2 = g.S.Sink.seen c.write_hosts.new.sink in
    let v3 = g.S.Sink.seen c.write_all.new.sink in
    let v4 = g.S.Sink.seen c.write_comms.new.sink in
    let nue = c.from.ensures ∙ c.nue.ensures.gives in
    let head = rw (nue, c.layout_name.ensures, c.layout.ensures.gives) at c.in_ok-write_texts.ensures in
    first_sent s v0 v1 v2 v3 v4 c.write_comms.result head c.in_ok-write_hosts.ensures c.in_ok-write_all.ensures c.write_comms.ensures
