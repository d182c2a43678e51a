use Rattle.std.proofs.Common.{sym, ◌∙◌}
use Rattle.rcce_run.proofs.FreshCrews.{crew_fresh}
use Rattle.rcce_run.proofs.UeEnds.{fresh_crew, fresh_some}
use Rattle.run_program.specs.Loading.{asked_by}
use Rattle.trace_script.proofs.TraceLaws.{stands_traced, trace_in_part, traced_over}
use Rattle.trace_script.proofs.launcher.run_traced.Goals as goal

pub write_run-end-requires-clause-crew : goal.write_run-end-requires-clause-crew
write_run-end-requires-clause-crew g c =
    let loaded = c.args.loaded.now in
    fresh_crew loaded.script c.args.chip.now c.args.crew.now (crew_fresh loaded.script loaded.setup c.args.crew.now c.requires.fresh c.args.chip.now c.requires.chip)

pub write_run-end-requires-clause-some : goal.write_run-end-requires-clause-some
write_run-end-requires-clause-some g c =
    let loaded = c.args.loaded.now in
    fresh_some loaded.script c.args.chip.now c.args.crew.now (crew_fresh loaded.script loaded.setup c.args.crew.now c.requires.fresh c.args.chip.now c.requires.chip) c.known.ensures.valid

pub write_run-end-requires-clause-judge : goal.write_run-end-requires-clause-judge
write_run-end-requires-clause-judge g c = (c.requires.judge.0 ∙ sym c.requires.chip.about, c.requires.judge.1)

pub returns-clause-stands : goal.returns-clause-stands
returns-clause-stands g c =
    let loaded = c.args.loaded.now in
    let (memory, agrees) = c.agrees.ensures.words in
    stands_traced (asked_by loaded) c.args.chip.now c.write_run-end.new.chip c.args.crew.now c.write_run-end.new.crew loaded.ranks c.requires.chip c.requires.fresh c.requires.evictors c.known.ensures.valid memory agrees
    c.write_run-end.ensures.stands

pub returns-clause-trace : goal.returns-clause-trace
returns-clause-trace g c =
    let loaded = c.args.loaded.now in
    let (memory, agrees) = c.agrees.ensures.words in
    trace_in_part (asked_by loaded) c.args.chip.now c.write_run-end.new.chip c.args.crew.now c.write_run-end.new.crew loaded.ranks c.requires.chip c.requires.fresh c.requires.evictors c.known.ensures.valid memory agrees
    c.write_run-end.ensures.stands _ _ c.seed_of.result c.write_run-end.result c.seed_of.ensures c.write_run-end.ensures.ends c.write_run-end.ensures.trace

pub returns-clause-over : goal.returns-clause-over
returns-clause-over g c =
    let loaded = c.args.loaded.now in
    let (memory, agrees) = c.agrees.ensures.words in
    traced_over (asked_by loaded) c.args.chip.now c.write_run-end.new.chip c.args.crew.now c.write_run-end.new.crew loaded.ranks c.requires.chip c.requires.fresh c.requires.evictors c.known.ensures.valid memory agrees
    c.write_run-end.ensures.stands c.seed_of.result c.write_run-end.result c.seed_of.ensures c.write_run-end.ensures.ends

pub returns-clause-legal : goal.returns-clause-legal
returns-clause-legal g c = record { calls = c.agrees.ensures.calls; messages = c.agrees.ensures.messages; barriers = c.agrees.ensures.barriers }
