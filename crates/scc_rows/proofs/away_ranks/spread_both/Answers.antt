use Rattle.std.proofs.Common.{◌≢◌, sym, ◌∙◌, ap, arith}
use Rattle.scc_mesh.specs.AwayRanks.{Ticket}
use Rattle.scc_mesh.proofs.HandOuts.{all_at_home, none_at_home, after_spread, others_keep}
use Rattle.scc_rows.proofs.away_ranks.spread_both.Goals as goal

pub returns-clause-away : goal.returns-clause-away
returns-clause-away c =
    let mid = c.spread-first.new.self in
    let end = c.spread-second.new.self in
    let one = after_spread c.args.chip.now mid 0 c.of.result c.of.ensures.gives c.spread-first.ensures.chip (all_at_home c.args.chip.now c.requires.whole) in
    none_at_home end 2 (after_spread mid end 1 c.of-2.result c.of-2.ensures.gives c.spread-second.ensures.chip one)

pub returns-clause-first : goal.returns-clause-first
returns-clause-first c =
    let token = c.spread-first.ensures.token in
    let same = c.spread-second.ensures.same.2 ∙ c.spread-first.ensures.same.2 in
    (ap (λ (t : Ticket). t.table) token ∙ sym same, ap (λ (t : Ticket). t.rank) token ∙ c.of.ensures.gives, ap (λ (t : Ticket). t.events) token ∙ c.requires.none c.of.result)

pub returns-clause-second : goal.returns-clause-second
returns-clause-second c =
    let token = c.spread-second.ensures.token in
    let zero = c.of.ensures.gives in
    let one = c.of-2.ensures.gives in
    let ne : c.of-2.result ≢ c.of.result = λ e. absurd (omega (arith, e, zero, one)) in (
      ap (λ (t : Ticket). t.table) token ∙ sym c.spread-second.ensures.same.2,
      ap (λ (t : Ticket). t.rank) token ∙ one,
      ap (λ (t : Ticket). t.events) token ∙ others_keep c.args.chip.now c.spread-first.new.self c.of.result c.of-2.result ne c.spread-first.ensures.chip ∙ c.requires.none c.of-2.result,
    )
