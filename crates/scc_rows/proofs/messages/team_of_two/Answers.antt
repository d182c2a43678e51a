use Rattle.std.proofs.Common.{◌+◌, ap, ◌∙◌, refl}
use Rattle.chip_teams.specs.Teams.{TeamView}
use Rattle.scc_rows.proofs.TalkLemmas.{first_of_two, second_of_two}
use Rattle.scc_rows.proofs.messages.team_of_two.Goals as goal

pub join-requires : goal.join-requires
join-requires g c =
    let begun = c.new-team.ensures.starts in
    record {
      stands = c.requires.first c.new-team.result.about c.new-team.result.size
          (first_of_two c.new-team.result.about (ap (λ (t : TeamView). t.about.nue) begun ∙ c.requires.two) (ap (λ (t : TeamView). t.size) begun) refl);
    }

pub join-requires-2 : goal.join-requires-2
join-requires-2 g c =
    let begun = c.new-team.ensures.starts in
    let joined = c.in_ok-join.ensures.joined in
    record {
      stands = c.requires.second c.join.new.self.about c.join.new.self.size
          (second_of_two c.join.new.self.about (ap (λ (t : TeamView). t.about.nue) joined ∙ (ap (λ (t : TeamView). t.about.nue) begun ∙ c.requires.two))
          (ap (λ (t : TeamView). t.size) joined ∙ ap (λ (t : TeamView). t.size + 1) begun) refl);
    }
