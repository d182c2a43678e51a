use Rattle.std.proofs.Common.{◌≡◌, None, ◌∙◌, sym, subst, arith}
use Rattle.line_cache.specs.Lines.{cached_words}
use Rattle.put_get.specs.Cores.{Private, Loaded}
use Rattle.put_get.proofs.StepLemmas.{steps_none}
use Rattle.put_get.proofs.cores.Core.fetch.Goals as goal

pub returns-in-Some-clause-steps : goal.returns-in-Some-clause-steps
returns-in-Some-clause-steps g c = steps_none g.P.Port.stepped (g.P.Port.sight c.args.port.now)

pub returns-clause-fetch : goal.returns-clause-fetch
returns-clause-fetch g c =
    Loaded (subst (λ (x : Private). cached_words x.lines c.args.line ≡ None) c.self.view_is (sym c.look.ensures ∙ c.in_default.is)) (omega arith) c.load_line-words.ensures.did c.bring.ensures.fills
