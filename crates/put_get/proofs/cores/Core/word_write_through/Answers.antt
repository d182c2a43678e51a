use Rattle.std.proofs.Common.{◌≡◌, ◌∙◌, [], ◌∷◌, None, Option, ap, subst}
use Rattle.scc_base.specs.Events.{store_of}
use Rattle.scc_proto.specs.Ports.{Did}
use Rattle.scc_proto.proofs.PortLaws.{did_both, may_next}
use Rattle.line_cache.specs.Lines.{lines_with_word}
use Rattle.write_combine.specs.declared.combiner.Out.{Out}
use Rattle.put_get.specs.Accesses.{stores_of}
use Rattle.put_get.specs.Cores.{Private}
use Rattle.put_get.proofs.StepLemmas.{steps_one, steps_both}
use Rattle.put_get.proofs.cores.Core.word_write_through.Goals as goal

pub store-requires : goal.store-requires
store-requires g c =
    let start = g.P.Port.sight c.args.port.now in
    let stored = g.P.Port.sight c.store_out.new.port in
    let held : c.flush-before.result ≡ c.args.self.now.out = c.flush-before.ensures.out ∙ ap (λ (x : Private). x.out) c.self.view_is in
    let did = subst (λ (o : Option Out). Did start (stores_of o) stored) held c.store_out.ensures.did in
    record { permitted = (may_next start (stores_of c.args.self.now.out) (store_of c.args.place c.args.word ∷ []) stored did c.requires.permitted).0 }

pub returns-clause-steps : goal.returns-clause-steps
returns-clause-steps g c =
    let start = g.P.Port.sight c.args.port.now in
    let stored = g.P.Port.sight c.store_out.new.port in
    let end = g.P.Port.sight c.store.new.self in
    steps_both g.P.Port.stepped start stored end _ (store_of c.args.place c.args.word ∷ []) c.store_out.ensures.did c.store.ensures.did c.store_out.ensures.steps
    (steps_one g.P.Port.stepped stored end (store_of c.args.place c.args.word) c.store.ensures.did c.store.ensures.step)

-- Names the goal, so that the prover rejects a wrong body at once, without a search.
pub returns-clause-writes : goal.returns-clause-writes
returns-clause-writes g c =
    let start = g.P.Port.sight c.args.port.now in
    let stored = g.P.Port.sight c.store_out.new.port in
    let held : c.flush-before.result ≡ c.args.self.now.out = c.flush-before.ensures.out ∙ ap (λ (x : Private). x.out) c.self.view_is in
    let did = subst (λ (o : Option Out). Did start (stores_of o) stored) held c.store_out.ensures.did in
    record {
      did = did_both start (stores_of c.args.self.now.out) stored (store_of c.args.place c.args.word ∷ []) _ did c.store.ensures.did;
      is = (λ i. record { lines = c.note_write.ensures.lines i; out = c.flush-before.ensures.held i; evictions = g.V.Evict.count c.self.inside.evict; asked = g.V.Evict.asked c.self.inside.evict; answers = g.V.Evict.answers c.self.inside.evict })
          ∙ ap (λ (x : Private). record x { lines = lines_with_word x.lines c.args.place c.args.word; out = None }) c.self.view_is;
    }
