use Rattle.std.proofs.Common.{◌∙◌, List, None, subst}
use Rattle.scc_base.specs.Places.{LineAt}
use Rattle.line_cache.specs.Eviction.{answers_of}
use Rattle.line_cache.specs.declared.cache.Entry.{Entry}
use Rattle.line_cache.specs.Lines.{with_filled_line}
use Rattle.put_get.specs.Cores.{Fetch}
use Rattle.chip_memory.specs.Chips.{turn_sight}
use Rattle.lab_run.specs.Evicting.{IsPlaceIn, named_answer}
use Rattle.lab_run.proofs.MoveLaws.{loaded_line}
use Rattle.lab_run.proofs.reads.load_line.Goals as goal

pub returns : goal.returns
returns c =
    let l = loaded_line c.args.evict.now c.leaving-leaves.result c.args.core.now c.evict_by.new.self c.fetch-words.new.self c.args.chip.now c.fetch-words.new.port c.args.at c.fetch-words.result
    c.requires.ready c.line.ensures.valid c.lines.ensures.valid.cache c.requires.new
    (λ came. subst (λ (l : LineAt). IsPlaceIn c.args.evict.now (with_filled_line c.args.core.now.lines l came) c.leaving-leaves.result) c.line.ensures.gives
    (subst (λ (es : List Entry). IsPlaceIn c.args.evict.now (with_filled_line es c.line.result came) c.leaving-leaves.result) c.lines.ensures.lines (c.leaving-leaves.ensures came)))
    (c.evict_by.ensures.asks ∙ (λ i. record c.args.core.now { evictions = (c.new.ensures i).count; asked = None; answers = answers_of (named_answer (c.new.ensures i)) }))
    (subst (λ (l : LineAt). Fetch (turn_sight c.args.chip.now) c.evict_by.new.self l c.fetch-words.result (turn_sight c.fetch-words.new.port) c.fetch-words.new.self) c.line-2.ensures.gives c.fetch-words.ensures.fetch)
    c.tells.ensures.run in
    record {
      loads = record {
        words = l.same;
        left = c.is_some.ensures ∙ l.leaves.left;
        lines = l.leaves.lines;
        memory = l.memory;
        makes = l.makes;
        out = l.out;
        ready = l.ready;
        kept = l.kept;
      };
    }
