use Rattle.std.proofs.Common.{[], ◌∷◌, ◌++◌, ◌∙◌, true, ap}
use Rattle.scc_base.specs.Places.{LineRun}
use Rattle.lab_plain.specs.declared.said.Said.TheVariants.{Stores}
use Rattle.lab_run.proofs.MoveLaws.{core_of, may_put, put_turn}
use Rattle.lab_run.proofs.moves.store_line.Goals as goal

pub put-requires-clause-permitted : goal.put-requires-clause-permitted
put-requires-clause-permitted c = λ few.
    may_put c.args.core.now c.args.chip.now c.args.at c.args.words.now _ c.buffer_of.result.first c.requires.ready c.line.ensures.valid
    (core_of c.args.chip.now c.args.at c.owner_of.result c.requires.ready.setup c.line.ensures.valid c.owner_of.ensures) (ap (λ (b : LineRun). b.first) c.buffer_of.ensures)

pub returns : goal.returns
returns c =
    let s = c.args.chip.now in
    let said = c.args.said.now.items in
    record {
      turned = put_turn c.args.core.now c.put.new.self s c.put.new.port c.args.at c.args.words.now _ c.buffer_of.result.first said c.say_line.new.said.items c.requires.ready c.line.ensures.valid
          (core_of s c.args.at c.owner_of.result c.requires.ready.setup c.line.ensures.valid c.owner_of.ensures) (ap (λ (b : LineRun). b.first) c.buffer_of.ensures) c.in-Ok.ensures.puts
          (c.in_ok-say_line.ensures ∙ (λ i. said ++ Stores (c.own.ensures i) (c.line.ensures.gives i) c.args.words.now (true ∷ true ∷ true ∷ true ∷ []) ∷ []));
    }
