use Rattle.std.proofs.Common.{◌∙◌, ap, sym}
use Rattle.scc_proto.proofs.Runs.IdleLaws.{idle_at_start}
use Rattle.scc_mesh.specs.AwayRanks.{Ticket, Away}
use Rattle.scc_mesh.specs.Scenes.{sight_away}
use Rattle.steps_program.proofs.IdleLemmas.{away_made}
use Rattle.steps_program.proofs.ports.make_away.Goals as goal

pub make_many-requires : goal.make_many-requires
make_many-requires c =
    let port = c.port-port.result in
    let none = ap (λ (p : Away). p.ticket.events) c.port-port.ensures.gives ∙ ap (λ (t : Ticket). t.events) c.spread-token.ensures.token ∙ c.requires.empty c.of.result in
    record { idle = idle_at_start (sight_away port.about port.ticket) none }

pub returns : goal.returns
returns c =
    let lent = c.port-port.ensures.gives in
    let given = c.spread-token.ensures.token in
    let none = ap (λ (p : Away). p.ticket.events) lent ∙ ap (λ (t : Ticket). t.events) given ∙ c.requires.empty c.of.result in
    let rank = ap (λ (p : Away). p.ticket.rank) lent ∙ ap (λ (t : Ticket). t.rank) given ∙ c.of.ensures.gives in
    let table = ap (λ (p : Away). p.ticket.table) lent ∙ ap (λ (t : Ticket). t.table) given ∙ sym c.spread-token.ensures.same.2 in
    let about = ap (λ (p : Away). p.about) lent ∙ c.words.ensures.about in record {
      made = away_made c.spread-token.new.self c.into_token.result c.port-port.result c.make_many.new.port c.args.kind c.args.count c.make_many.ensures.stepped none rank table about
          c.into_token.ensures.gives;
    }
