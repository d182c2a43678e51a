use Rattle.std.proofs.Common.{◌≡◌, ◌∙◌, [], None, refl, sym, subst, ap, slice_index, arith}
use Rattle.scc_base.specs.Places.{LineAt}
use Rattle.line_cache.specs.Lines.{cached_words}
use Rattle.put_get.specs.Cores.{Private, Fills, Fetch, Loaded}
use Rattle.put_get.proofs.cores.Core.fresh_word.Goals as goal

pub bring-requires : goal.bring-requires
bring-requires g c = subst (λ (x : Private). cached_words x.lines c.line_at-line.result ≡ None) (sym c.cl1invmb.ensures) refl

pub returns-clause-reads : goal.returns-clause-reads
returns-clause-reads g c = record {
  words = c.load_line-loaded.result;
  fetch = subst (λ (l : LineAt). Fetch (g.P.Port.sight c.args.port.now) (record c.args.self.now { lines = [] }) l c.load_line-loaded.result (g.P.Port.sight c.load_line-loaded.new.port) c.bring.new.self) c.line_at-line.ensures.gives
      (Loaded refl (omega arith) c.load_line-loaded.ensures.did
      (subst (λ (x : Private). Fills x c.line_at-line.result c.load_line-loaded.result c.bring.new.self) c.cl1invmb.ensures c.bring.ensures.fills));
  is = ap (λ k. slice_index c.load_line-loaded.result k) (c.from.ensures ∙ c.word.ensures.gives);
}
