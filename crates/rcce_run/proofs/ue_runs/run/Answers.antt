use Rattle.std.proofs.Common.{ℕ, ◌<◌, length, sym, subst}
use Rattle.chip_run.specs.Crews.{AllRest, CrewStands}
use Rattle.chip_run.proofs.ServedLaws.{some_worker}
use Rattle.rcce_run.specs.UeRuns.{ue_members, member_ue}
use Rattle.rcce_run.proofs.RunEnds.{ends_as, still_run}
use Rattle.rcce_run.proofs.UeEnds.{collectives_hold, fresh_crew, fresh_run, fresh_some, has_calls, members_run, shows_ends, waits_open}
use Rattle.rcce_run.proofs.SentLaws.{counts_sends}
use Rattle.rcce_run.proofs.ue_runs.run.Goals as goal

pub run-end-requires-clause-crew : goal.run-end-requires-clause-crew
run-end-requires-clause-crew g c = λ κs lives. fresh_crew c.requires.fresh.0 c.args.chip.now c.args.crew.now c.requires.fresh.1

pub run-end-requires-clause-some : goal.run-end-requires-clause-some
run-end-requires-clause-some g c = λ κs lives.
    fresh_some c.requires.fresh.0 c.args.chip.now c.args.crew.now c.requires.fresh.1 c.known.ensures.valid

pub returns-clause-stands : goal.returns-clause-stands
returns-clause-stands g c =
    let stands : CrewStands ue_members c.args.chip.now c.args.crew.now c.run-end.new.chip c.run-end.new.crew = c.run-end.ensures.stands in
    record { about = stands.goes.about; table = stands.goes.table; whole = stands.is_crew.whole }

pub returns-clause-home : goal.returns-clause-home
returns-clause-home g c =
    let stands : CrewStands ue_members c.args.chip.now c.args.crew.now c.run-end.new.chip c.run-end.new.crew = c.run-end.ensures.stands in
    record { count = stands.goes.count; empty = λ k d low. (stands.is_crew.ties k d low).empty }

pub returns-clause-gives : goal.returns-clause-gives
returns-clause-gives g c = λ script fresh.
    let chip = c.run-end.new.chip in
    let crew = c.run-end.new.crew in
    let (memory, agrees) = c.agrees.ensures.words in
    let stands : CrewStands ue_members c.args.chip.now c.args.crew.now c.run-end.new.chip c.run-end.new.crew = c.run-end.ensures.stands in
    let all = still_run ue_members member_ue members_run script c.args.chip.now chip c.args.crew.now crew stands.goes (fresh_run script c.args.chip.now c.args.crew.now fresh) in
    let some : 0 < length c.run-end.new.crew =
    subst (λ (n : ℕ). 0 < n) (sym stands.goes.count) (fresh_some script c.args.chip.now c.args.crew.now fresh c.known.ensures.valid) in
    let first = some_worker crew some in
    let rests = subst (λ (n : ℕ). AllRest ue_members c.run-end.new.chip c.run-end.new.crew n) stands.is_crew.each c.run-end.ensures.rests in
    record {
      answer = ends_as ue_members member_ue members_run script chip crew memory agrees stands.is_crew all some first rests c.run-end.result c.run-end.ensures.answer;
      ends = λ k d low. shows_ends script chip crew memory agrees stands.is_crew all some d rests k low;
      calls = λ k low. has_calls script chip crew memory agrees stands.is_crew all some first rests k low;
      sent = λ k d low. counts_sends script chip crew stands.is_crew all some d k low;
      opened = λ k call low is_open. waits_open script chip crew memory agrees stands.is_crew all some first rests k call low is_open;
      collectives = λ slots. collectives_hold script chip crew memory agrees stands.is_crew all some first rests slots;
    }

pub returns-clause-legal : goal.returns-clause-legal
returns-clause-legal g c = record { calls = c.agrees.ensures.calls; messages = c.agrees.ensures.messages; barriers = c.agrees.ensures.barriers }

pub returns-clause-no_draft : goal.returns-clause-no_draft
returns-clause-no_draft g c = c.run-end.ensures.no_draft

pub returns-clause-order : goal.returns-clause-order
returns-clause-order g c = c.run-end.ensures.order
