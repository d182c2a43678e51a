use Rattle.std.proofs.Common.{sym, subst}
use Rattle.rcce_io.specs.Sending.{CutShort, Sends}
use Rattle.rcce_io.proofs.SendingLemmas.{cut_then, sends_after, sends_err}
use Rattle.rank_monitor.specs.declared.next.NextEvent.{NextEvent}
use Rattle.trace_program.specs.NextTexts.{next_text, ready_text, store_text}
use Rattle.trace_program.proofs.next_texts.write_next.Goals as goal

pub returns-in_err-write_store-in-Stores : goal.returns-in_err-write_store-in-Stores
returns-in_err-write_store-in-Stores g c =
    let before = g.S.Sink.seen c.args.sink.now in
    let after = g.S.Sink.seen c.write_store.new.sink in
    sends_err before after (next_text c.args.next.now) _ c.from_residual.ensures.0
    (subst (λ (e : NextEvent). CutShort (next_text e) before after) (sym c.in-Stores.is)
    (cut_then before after (store_text c.in-Stores.store) (ready_text c.in-Stores.ready) c.in_err-write_store-in-Stores.ensures))

pub returns-in-FreeRegister : goal.returns-in-FreeRegister
returns-in-FreeRegister g c =
    subst (λ (e : NextEvent). Sends (next_text e) (g.S.Sink.seen c.args.sink.now) (g.S.Sink.seen c.write_all.new.sink) c.write_all.result) (sym c.in-FreeRegister.is) c.write_all.ensures

pub returns-in-LoadFlags : goal.returns-in-LoadFlags
returns-in-LoadFlags g c =
    subst (λ (e : NextEvent). Sends (next_text e) (g.S.Sink.seen c.args.sink.now) (g.S.Sink.seen c.write_all-in-LoadFlags.new.sink) c.write_all-in-LoadFlags.result) (sym c.in-LoadFlags.is)
    c.write_all-in-LoadFlags.ensures

pub returns-in_ok-write_store-in-Stores : goal.returns-in_ok-write_store-in-Stores
returns-in_ok-write_store-in-Stores g c =
    let before = g.S.Sink.seen c.args.sink.now in
    let between = g.S.Sink.seen c.write_store.new.sink in
    let after = g.S.Sink.seen c.write_ready.new.sink in
    subst (λ (e : NextEvent). Sends (next_text e) before after c.write_ready.result) (sym c.in-Stores.is)
    (sends_after before between after (store_text c.in-Stores.store) (ready_text c.in-Stores.ready) c.write_ready.result c.in_ok-write_store-in-Stores.ensures c.write_ready.ensures)
