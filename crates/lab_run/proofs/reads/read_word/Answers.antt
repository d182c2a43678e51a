use Rattle.std.proofs.Common.{◌≡◌, ℕ, Option, IfOk, slice_index, subst, unwrap_or}
use Rattle.scc_base.specs.Places.{line_of_word}
use Rattle.line_cache.specs.Lines.{cached_words}
use Rattle.lab_plain.specs.Scenes.{line_in}
use Rattle.lab_run.specs.Turns.{memory_in}
use Rattle.lab_run.proofs.MoveLaws.{unbuffered_turn}
use Rattle.lab_run.proofs.TurnLaws.{on_ok}
use Rattle.lab_run.proofs.reads.read_word.Goals as goal

pub returns-in-None-clause-turned : goal.returns-in-None-clause-turned
returns-in-None-clause-turned c =
    on_ok c.fetch_word.result
    (λ turned. unbuffered_turn c.args.core.now c.fetch_word.new.core c.args.chip.now c.fetch_word.new.chip c.args.at c.args.evict.now c.args.said.now.items c.fetch_word.new.said.items c.in-None.ensures turned) c.fetch_word.ensures.turned

pub returns-in-None-clause-answers : goal.returns-in-None-clause-answers
returns-in-None-clause-answers c =
    let other = slice_index (unwrap_or (cached_words c.args.core.now.lines (line_of_word c.args.at)) (line_in (memory_in c.args.chip.now) (line_of_word c.args.at))) c.args.at.word in
    subst (λ (o : Option ℕ). IfOk c.fetch_word.result (λ v. v ≡ unwrap_or o other)) c.in-None.ensures c.fetch_word.ensures.answers
