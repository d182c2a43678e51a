use Rattle.std.proofs.Common.{◌∙◌}
use Rattle.rcce_io.proofs.SendingLemmas.{sends_err}
use Rattle.scc_proto.specs.Words.{RankEvent}
use Rattle.trace_writer.specs.Lines.{event_line}
use Rattle.trace_writer.proofs.LineLaws.{blank_cut, comment_cut, head_cut, line_sent, mark_cut, place_cut, value_cut}
use Rattle.trace_writer.proofs.lines.EventLineTextSource.write_to.Goals as goal

pub returns-in_err-write_texts : goal.returns-in_err-write_texts
returns-in_err-write_texts g c =
    let s = c.args.self.now.setup.now in
    let e : RankEvent = record { rank = c.args.self.now.rank; event = c.args.self.now.event.now } in
    let rank = c.from.ensures ∙ c.number.ensures.gives in
    let core = c.from-2.ensures ∙ c.number-2.ensures.gives ∙ c.core.ensures.gives in
    let head = rw (rank, c.access_name.ensures, core) at c.in_err-write_texts.ensures in
    sends_err (g.S.Sink.seen c.args.sink.now) (g.S.Sink.seen c.write_texts.new.sink) (event_line s e) _ c.from_residual.ensures.0
    (head_cut s e (g.S.Sink.seen c.args.sink.now) (g.S.Sink.seen c.write_texts.new.sink) head)

pub returns-in_err-write_place : goal.returns-in_err-write_place
returns-in_err-write_place g c =
    let s = c.args.self.now.setup.now in
    let e : RankEvent = record { rank = c.args.self.now.rank; event = c.args.self.now.event.now } in
    let rank = c.from.ensures ∙ c.number.ensures.gives in
    let core = c.from-2.ensures ∙ c.number-2.ensures.gives ∙ c.core.ensures.gives in
    let head = rw (rank, c.access_name.ensures, core) at c.in_ok-write_texts.ensures in
    sends_err (g.S.Sink.seen c.args.sink.now) (g.S.Sink.seen c.write_place.new.sink) (event_line s e) _ c.from_residual-in_err-write_place.ensures.0
    (place_cut s e (g.S.Sink.seen c.args.sink.now) (g.S.Sink.seen c.write_texts.new.sink) (g.S.Sink.seen c.write_place.new.sink) head c.in_err-write_place.ensures)

pub returns-in_err-write_all : goal.returns-in_err-write_all
returns-in_err-write_all g c =
    let s = c.args.self.now.setup.now in
    let e : RankEvent = record { rank = c.args.self.now.rank; event = c.args.self.now.event.now } in
    let rank = c.from.ensures ∙ c.number.ensures.gives in
    let core = c.from-2.ensures ∙ c.number-2.ensures.gives ∙ c.core.ensures.gives in
    let head = rw (rank, c.access_name.ensures, core) at c.in_ok-write_texts.ensures in
    sends_err (g.S.Sink.seen c.args.sink.now) (g.S.Sink.seen c.write_all.new.sink) (event_line s e) _ c.from_residual-in_err-write_all.ensures.0
    (blank_cut s e (g.S.Sink.seen c.args.sink.now) (g.S.Sink.seen c.write_texts.new.sink) (g.S.Sink.seen c.write_place.new.sink) (g.S.Sink.seen c.write_all.new.sink) head
    c.in_ok-write_place.ensures c.in_err-write_all.ensures)

pub returns-in_err-write_hex : goal.returns-in_err-write_hex
returns-in_err-write_hex g c =
    let s = c.args.self.now.setup.now in
    let e : RankEvent = record { rank = c.args.self.now.rank; event = c.args.self.now.event.now } in
    let rank = c.from.ensures ∙ c.number.ensures.gives in
    let core = c.from-2.ensures ∙ c.number-2.ensures.gives ∙ c.core.ensures.gives in
    let head = rw (rank, c.access_name.ensures, core) at c.in_ok-write_texts.ensures in
    let value = rw c.to_be_bytes.ensures at c.in_err-write_hex.ensures in
    sends_err (g.S.Sink.seen c.args.sink.now) (g.S.Sink.seen c.write_hex.new.sink) (event_line s e) _ c.from_residual-in_err-write_hex.ensures.0
    (value_cut s e (g.S.Sink.seen c.args.sink.now) (g.S.Sink.seen c.write_texts.new.sink) (g.S.Sink.seen c.write_place.new.sink) (g.S.Sink.seen c.write_all.new.sink)
    (g.S.Sink.seen c.write_hex.new.sink) head c.in_ok-write_place.ensures c.in_ok-write_all.ensures value)

pub returns-in_err-write_all-2 : goal.returns-in_err-write_all-2
returns-in_err-write_all-2 g c =
    let s = c.args.self.now.setup.now in
    let e : RankEvent = record { rank = c.args.self.now.rank; event = c.args.self.now.event.now } in
    let rank = c.from.ensures ∙ c.number.ensures.gives in
    let core = c.from-2.ensures ∙ c.number-2.ensures.gives ∙ c.core.ensures.gives in
    let head = rw (rank, c.access_name.ensures, core) at c.in_ok-write_texts.ensures in
    let value = rw c.to_be_bytes.ensures at c.in_ok-write_hex.ensures in
    let last = g.S.Sink.seen c.write_all-2.new.sink in
    sends_err (g.S.Sink.seen c.args.sink.now) last (event_line s e) _ c.from_residual-in_err-write_all-2.ensures.0
    (mark_cut s e (g.S.Sink.seen c.args.sink.now) (g.S.Sink.seen c.write_texts.new.sink) (g.S.Sink.seen c.write_place.new.sink) (g.S.Sink.seen c.write_all.new.sink)
    (g.S.Sink.seen c.write_hex.new.sink) last last last head c.in_ok-write_place.ensures c.in_ok-write_all.ensures value c.in_err-write_all-2.ensures)

pub returns-in_err-write_comment : goal.returns-in_err-write_comment
returns-in_err-write_comment g c =
    let s = c.args.self.now.setup.now in
    let e : RankEvent = record { rank = c.args.self.now.rank; event = c.args.self.now.event.now } in
    let rank = c.from.ensures ∙ c.number.ensures.gives in
    let core = c.from-2.ensures ∙ c.number-2.ensures.gives ∙ c.core.ensures.gives in
    let head = rw (rank, c.access_name.ensures, core) at c.in_ok-write_texts.ensures in
    let value = rw c.to_be_bytes.ensures at c.in_ok-write_hex.ensures in
    let last = g.S.Sink.seen c.write_comment.new.sink in
    sends_err (g.S.Sink.seen c.args.sink.now) last (event_line s e) _ c.from_residual-in_err-write_comment.ensures.0
    (comment_cut s e (g.S.Sink.seen c.args.sink.now) (g.S.Sink.seen c.write_texts.new.sink) (g.S.Sink.seen c.write_place.new.sink) (g.S.Sink.seen c.write_all.new.sink)
    (g.S.Sink.seen c.write_hex.new.sink) (g.S.Sink.seen c.write_all-2.new.sink) last last head c.in_ok-write_place.ensures c.in_ok-write_all.ensures value c.in_ok-write_all-2.ensures
    c.in_err-write_comment.ensures)

pub returns : goal.returns
returns g c =
    let s = c.args.self.now.setup.now in
    let e : RankEvent = record { rank = c.args.self.now.rank; event = c.args.self.now.event.now } in
    let rank = c.from.ensures ∙ c.number.ensures.gives in
    let core = c.from-2.ensures ∙ c.number-2.ensures.gives ∙ c.core.ensures.gives in
    let head = rw (rank, c.access_name.ensures, core) at c.in_ok-write_texts.ensures in
    let value = rw c.to_be_bytes.ensures at c.in_ok-write_hex.ensures in
    line_sent s e (g.S.Sink.seen c.args.sink.now) (g.S.Sink.seen c.write_texts.new.sink) (g.S.Sink.seen c.write_place.new.sink) (g.S.Sink.seen c.write_all.new.sink)
    (g.S.Sink.seen c.write_hex.new.sink) (g.S.Sink.seen c.write_all-2.new.sink) (g.S.Sink.seen c.write_comment.new.sink) (g.S.Sink.seen c.write_all-3.new.sink) head
    c.in_ok-write_place.ensures c.in_ok-write_all.ensures value c.write_all-3.result c.in_ok-write_all-2.ensures c.in_ok-write_comment.ensures c.write_all-3.ensures
