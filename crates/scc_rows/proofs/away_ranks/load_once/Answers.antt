use Rattle.std.proofs.Common.{◌∙◌, ap}
use Rattle.scc_mesh.specs.AwayRanks.{Ticket, Away}
use Rattle.scc_mesh.proofs.PortEnds.{ticket_ends}
use Rattle.scc_rows.proofs.away_ranks.load_once.Goals as goal

pub returns : goal.returns
returns c = record {
  same = ap (λ (t : Ticket). t.table) (c.into_token.ensures.gives ∙ ticket_ends _ _ _ _ _ c.load.ensures.did) ∙ ap (λ (p : Away). p.ticket.table) c.port-port.ensures.gives;
}
