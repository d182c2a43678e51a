use Rattle.std.proofs.Common.{◌≡◌, ◌∙◌, ap, arith}
use Rattle.scc_base.specs.Setups.{SetupView}
use Rattle.scc_mesh.specs.Scenes.{about_in}
use Rattle.scc_mesh.proofs.HandOuts.{after_gather, all_came_home}
use Rattle.scc_rows.proofs.away_ranks.gather_both.Goals as goal

pub returns : goal.returns
returns c =
    let mid = c.gather.new.self in
    let end = c.gather-2.new.self in
    let two = c.requires.ranks in
    let same : (about_in mid).nue ≡ 2 = ap (λ (s : SetupView). s.nue) c.gather.ensures.same.1 ∙ two in
    let still : (about_in end).nue ≡ 2 = ap (λ (s : SetupView). s.nue) c.gather-2.ensures.same.1 ∙ same in
    let one = after_gather c.args.chip.now mid 0 c.args.first.rank c.args.first.events c.requires.first.1 c.gather.ensures.chip c.requires.away (omega (arith, two)) in
    let both = after_gather mid end 1 c.args.second.rank c.args.second.events c.requires.second.1 c.gather-2.ensures.chip one (omega (arith, same)) in
    record { whole = all_came_home end 2 both (omega (arith, still)) }
