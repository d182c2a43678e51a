use Rattle.std.proofs.Common.{◌∙◌, ap, subst, sym}
use Rattle.line_cache.specs.Lines.{with_filled_line, cached_words}
use Rattle.put_get.specs.Cores.{Private}
use Rattle.put_get.specs.HeapStores.{AwaitsHeap}
use Rattle.lab_plain.specs.Scenes.{line_in}
use Rattle.lab_run.specs.Turns.{memory_in}
use Rattle.lab_run.proofs.TurnLaws.{kept_none, ready_after}
use Rattle.lab_run.proofs.moves.get_line.Goals as goal

pub load_line-requires-clause-ready : goal.load_line-requires-clause-ready
load_line-requires-clause-ready c =
    ready_after c.args.core.now c.cl1invmb.new.self c.args.chip.now c.args.chip.now c.requires.ready (kept_none c.args.chip.now)
    (subst (λ (x : Private). AwaitsHeap c.args.chip.now.setup x.out) (sym c.cl1invmb.ensures) c.requires.ready.awaits)

pub load_line-requires-clause-new : goal.load_line-requires-clause-new
load_line-requires-clause-new c = ap (λ (x : Private). cached_words x.lines c.args.at) c.cl1invmb.ensures

pub returns-clause-lines : goal.returns-clause-lines
returns-clause-lines c = c.load_line.ensures.loads.lines ∙ ap (λ (x : Private). with_filled_line x.lines c.args.at (line_in (memory_in c.args.chip.now) c.args.at)) c.cl1invmb.ensures

pub returns-clause-empty : goal.returns-clause-empty
returns-clause-empty c = c.load_line.ensures.loads.out ∙ ap (λ (x : Private). x.out) c.cl1invmb.ensures ∙ c.requires.empty

pub returns-clause-words : goal.returns-clause-words
returns-clause-words c = c.load_line.ensures.loads.words

pub returns-clause-memory : goal.returns-clause-memory
returns-clause-memory c = c.load_line.ensures.loads.memory

pub returns-clause-ready : goal.returns-clause-ready
returns-clause-ready c = c.load_line.ensures.loads.ready

pub returns-clause-kept : goal.returns-clause-kept
returns-clause-kept c = c.load_line.ensures.loads.kept

pub returns-clause-makes : goal.returns-clause-makes
returns-clause-makes c = c.load_line.ensures.loads.makes
