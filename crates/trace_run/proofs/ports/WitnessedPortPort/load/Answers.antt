use Rattle.scc_base.specs.Events.{load_of}
use Rattle.trace_run.proofs.SeenLaws.{below_seen, seen_more, still_on}
use Rattle.trace_run.proofs.ports.WitnessedPortPort.load.Goals as goal

pub note-requires-clause-below : goal.note-requires-clause-below
note-requires-clause-below g c =
    below_seen (g.N.Witness.setup c.args.self.now.witness) (g.N.Witness.noted c.args.self.now.witness) (g.P.Port.sight c.args.self.now.port) c.rank-rank.result c.args.self.now.seen c.rank-rank.ensures.below

pub invariant_of-self : goal.invariant_of-self
invariant_of-self g c =
    let t = c.args.self.now in
    let end = c.note.new.self in
    record {
      seen = seen_more (g.N.Witness.setup t.witness) (g.N.Witness.setup end) (g.N.Witness.noted t.witness) (g.N.Witness.noted end)
          (g.P.Port.sight t.port) (g.P.Port.sight c.load-value.new.self) c.rank-rank.result (load_of c.args.p c.load-value.result) c.load.result c.load.ensures.gives
          c.rank-rank.ensures.gives c.load-value.ensures.did c.note.ensures.setup c.note.ensures.noted t.seen;
      wanted = still_on g.B.Before.wanted (g.N.Witness.wanted_after t.witness) (g.N.Witness.wanted_after end) t.wanted c.note.ensures.wanted;
    }
