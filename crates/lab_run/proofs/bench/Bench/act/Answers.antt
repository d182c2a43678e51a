use Rattle.std.proofs.Common.{◌≡◌, ◌∙◌, ℕ, map, slice_index_or, slice_set, subst, sym}
use Rattle.lab_run.specs.Stands.{IsBench, holds_of, stand_of}
use Rattle.lab_run.proofs.BenchLaws.{act_done, act_ready, both_ok}
use Rattle.lab_run.proofs.ToldLaws.{all_told}
use Rattle.lab_run.proofs.bench.Bench.act.Goals as goal

pub act-requires : goal.act-requires
act-requires c =
    let b = c.args.self.now in
    let core = c.index_mut-core.result.now in
    record {
      ready = act_ready b.chip b.cores.items b.holders core c.args.own c.requires.stands.bench c.requires.turn c.requires.below
          (subst (λ (k : ℕ). core ≡ slice_index_or b.cores.items k core) c.number.ensures.gives c.index_mut-core.ensures.value);
    }

pub returns : goal.returns
returns c =
    let b = c.args.self.now in
    let core = c.index_mut-core.result.now in
    both_ok c.act.result
    (λ stop turned stops.
    let done = act_done c.args.line c.args.own c.args.action.now b.chip c.act.new.chip b.cores.items core c.act.new.core b.holders b.said.items c.act.new.said.items stop c.requires.stands.bench c.requires.turn
    c.requires.below (subst (λ (k : ℕ). core ≡ slice_index_or b.cores.items k core) c.number.ensures.gives c.index_mut-core.ensures.value) turned stops in
    record {
      stand = (λ i. stand_of c.act.new.chip (slice_set b.cores.items (c.number.ensures.gives i) c.act.new.core) b.holders c.act.new.said.items) ∙ done.stand;
      stop = done.stopped;
      stands = record {
        bench = subst (λ (k : ℕ). IsBench c.act.new.chip (map holds_of (slice_set b.cores.items k c.act.new.core)) b.holders) (sym c.number.ensures.gives) done.stands;
        told = all_told b.chip c.act.new.chip b.said.items c.act.new.said.items turned.tells c.requires.stands.told;
      };
    }) c.act.ensures.turned c.act.ensures.stop
