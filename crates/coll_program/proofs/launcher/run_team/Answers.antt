use Rattle.std.proofs.Common.{◌≡◌, List, length, sym, ap, ◌∙◌, subst, arith, true, []}
use Rattle.std.proofs.lemmas.List.{with_items_is}
use Rattle.std.specs.Vec.{with_items}
use Rattle.coll_run.specs.Teams.{MemberView}
use Rattle.coll_program.specs.Pieces.{dst_at}
use Rattle.coll_program.specs.Runs.{IsTeamOf}
use Rattle.coll_program.specs.Texts.{lines_by}
use Rattle.coll_program.proofs.RunLemmas.{fresh_team, has_run, report_is}
use Rattle.coll_program.proofs.launcher.run_team.Goals as goal

pub run-requires : goal.run-requires
run-requires c =
    let job = c.args.job.now in
    let is : IsTeamOf job c.as_mut_slice.result.now = subst (IsTeamOf job) (sym c.as_mut_slice.ensures.value) c.requires.team in
    record { fresh = (job.more, job.len, fresh_team job c.args.chip.now c.as_mut_slice.result.now c.requires.new is) }

pub returns : goal.returns
returns c =
    let job = c.args.job.now in
    let is : IsTeamOf job c.as_mut_slice.result.now = subst (IsTeamOf job) (sym c.as_mut_slice.ensures.value) c.requires.team in
    let ended = c.run.ensures.ended job.more job.len (fresh_team job c.args.chip.now c.as_mut_slice.result.now c.requires.new is) in
    let given : length c.as_mut_slice.result.now ≡ length c.args.team.items = ap length c.as_mut_slice.ensures.value in
    let room : length c.run.new.team ≡ length c.as_mut_slice.result.now = omega (arith, c.run.auto.team) in
    let long : length c.run.new.team ≡ c.args.team.len = omega (arith, given, room, c.args.team.ok.0) in
    let back : (with_items c.args.team c.run.new.team).items ≡ c.run.new.team = with_items_is c.args.team c.run.new.team long in
    let text = ap (λ (l : List MemberView). lines_by job.more job.nue (dst_at l)) back ∙ report_is job c.args.chip.now c.run.new.chip c.as_mut_slice.result.now c.run.new.team c.requires.some c.requires.new is ended in
    record {
      ran = λ i. record { finished = true; out = text i; err = [] };
      has_run = has_run job c.args.chip.now c.run.new.chip c.as_mut_slice.result.now c.run.new.team c.requires.some c.requires.new is ended;
    }
