use Rattle.chip_run.specs.Crews.{CrewStands}
use Rattle.log_run.specs.LogRuns.{ue_loggers}
use Rattle.log_run.proofs.FreshLaws.{fresh_is_crew}
use Rattle.log_run.proofs.RunLeaves.{run_calls, run_ends, run_first, run_kept, run_legal, run_opened, run_room}
use Rattle.log_run.proofs.ue_runs.log_run.Goals as goal

pub run_by_sweeps-end-requires : goal.run_by_sweeps-end-requires
run_by_sweeps-end-requires g c = record { crew = fresh_is_crew c.requires.fresh.0 c.args.chip.now c.args.crew.now c.requires.fresh.1 }

pub returns-clause-stands : goal.returns-clause-stands
returns-clause-stands g c =
    let stands : CrewStands ue_loggers c.args.chip.now c.args.crew.now c.run_by_sweeps-end.new.chip c.run_by_sweeps-end.new.crew = c.run_by_sweeps-end.ensures.stands in
    record { about = stands.goes.about; table = stands.goes.table; whole = stands.is_crew.whole }

pub returns-clause-count : goal.returns-clause-count
returns-clause-count g c =
    let stands : CrewStands ue_loggers c.args.chip.now c.args.crew.now c.run_by_sweeps-end.new.chip c.run_by_sweeps-end.new.crew = c.run_by_sweeps-end.ensures.stands in
    stands.goes.count

pub returns-clause-answer : goal.returns-clause-answer
returns-clause-answer g c = λ script fresh.
    let (memory, agrees) = c.agrees.ensures.words in
    run_ends script c.args.chip.now c.run_by_sweeps-end.new.chip c.args.crew.now c.run_by_sweeps-end.new.crew fresh c.known.ensures.valid
    c.run_by_sweeps-end.ensures.stands memory agrees c.run_by_sweeps-end.ensures.rests c.run_by_sweeps-end.result c.run_by_sweeps-end.ensures.answer

pub returns-clause-calls : goal.returns-clause-calls
returns-clause-calls g c = λ script fresh k.
    let (memory, agrees) = c.agrees.ensures.words in
    run_calls script c.args.chip.now c.run_by_sweeps-end.new.chip c.args.crew.now c.run_by_sweeps-end.new.crew fresh c.known.ensures.valid
    c.run_by_sweeps-end.ensures.stands memory agrees c.run_by_sweeps-end.ensures.rests c.agrees.ensures.beyond k

pub returns-clause-legal : goal.returns-clause-legal
returns-clause-legal g c =
    let (memory, agrees) = c.agrees.ensures.words in
    run_legal c.requires.fresh.0 c.args.chip.now c.run_by_sweeps-end.new.chip c.args.crew.now c.run_by_sweeps-end.new.crew c.requires.fresh.1 c.known.ensures.valid
    c.run_by_sweeps-end.ensures.stands memory agrees c.run_by_sweeps-end.ensures.rests c.agrees.ensures.beyond c.agrees.ensures.calls

pub returns-clause-opened : goal.returns-clause-opened
returns-clause-opened g c = λ script fresh k call low is_open.
    let (memory, agrees) = c.agrees.ensures.words in
    run_opened script c.args.chip.now c.run_by_sweeps-end.new.chip c.args.crew.now c.run_by_sweeps-end.new.crew fresh c.known.ensures.valid
    c.run_by_sweeps-end.ensures.stands memory agrees c.run_by_sweeps-end.ensures.rests k call low is_open

pub returns-clause-kept : goal.returns-clause-kept
returns-clause-kept g c = λ script fresh k d low planned.
    let (memory, agrees) = c.agrees.ensures.words in
    run_kept script c.args.chip.now c.run_by_sweeps-end.new.chip c.args.crew.now c.run_by_sweeps-end.new.crew fresh c.known.ensures.valid
    c.run_by_sweeps-end.ensures.stands memory agrees c.run_by_sweeps-end.ensures.rests k d low planned

pub returns-clause-long : goal.returns-clause-long
returns-clause-long g c = λ script fresh k low.
    let (memory, agrees) = c.agrees.ensures.words in
    (run_first script c.args.chip.now c.run_by_sweeps-end.new.chip c.args.crew.now c.run_by_sweeps-end.new.crew fresh c.known.ensures.valid
    c.run_by_sweeps-end.ensures.stands memory agrees c.run_by_sweeps-end.ensures.rests k low).long

pub returns-clause-own : goal.returns-clause-own
returns-clause-own g c = λ script fresh k low.
    let (memory, agrees) = c.agrees.ensures.words in
    (run_first script c.args.chip.now c.run_by_sweeps-end.new.chip c.args.crew.now c.run_by_sweeps-end.new.crew fresh c.known.ensures.valid
    c.run_by_sweeps-end.ensures.stands memory agrees c.run_by_sweeps-end.ensures.rests k low).own

pub returns-clause-room : goal.returns-clause-room
returns-clause-room g c = λ script fresh k low planned.
    let (memory, agrees) = c.agrees.ensures.words in
    run_room script c.args.chip.now c.run_by_sweeps-end.new.chip c.args.crew.now c.run_by_sweeps-end.new.crew fresh c.known.ensures.valid
    c.run_by_sweeps-end.ensures.stands memory agrees c.run_by_sweeps-end.ensures.rests k low planned
