use Rattle.std.proofs.Common.{rules, [], ◌∷◌, ◌≡◌, ◌<◌, ◌∙◌, ap, ℕ, true, List, Option, None, map, slice_set, subst, sym}
use Rattle.scc_base.specs.Events.{free_of}
use Rattle.chip_memory.specs.Chips.{of_rank}
use Rattle.lab_plain.specs.declared.said.Said.TheVariants.{Frees}
use Rattle.lab_plain.specs.Meaning.{holder_of, is_holder}
use Rattle.lab_run.specs.Stands.{IsBench, holds_of, stand_of}
use Rattle.lab_run.proofs.RegisterLaws.{free_done, may_free}
use Rattle.lab_run.proofs.ToldLaws.{all_told, told_by}
use Rattle.lab_run.proofs.bench.Bench.free.Goals as goal

pub free-requires : goal.free-requires
free-requires c =
    let own : c.has.result ≡ true = search rules in
    record {
      permitted = may_free c.args.self.now.chip (map holds_of c.args.self.now.cores.items) c.args.self.now.holders c.args.register c.requires.stands.bench
          (subst (λ (r : ℕ). r < 48) (sym c.requires.turn) c.requires.below) (subst (λ (k : ℕ). k < 48) c.number-place.ensures.gives c.number-place.ensures.below) (ap (λ (r : ℕ). is_holder r (holder_of c.args.self.now.holders c.args.register)) c.requires.turn ∙ sym c.has.ensures ∙ own);
    }

pub returns : goal.returns
returns c =
    let b = c.args.self.now in
    let own : c.has.result ≡ true = search rules in
    let done = free_done c.args.line c.args.core c.args.register b.chip c.free.new.self b.cores.items b.holders b.said.items c.requires.stands.bench c.requires.turn c.requires.below
    (subst (λ (k : ℕ). k < 48) c.number-place.ensures.gives c.number-place.ensures.below) (sym c.has.ensures ∙ own) c.free.ensures.did in
    let none : Option ℕ = None in
    let holders : slice_set b.holders c.number-place.result none ≡ slice_set b.holders c.args.register none = λ i. slice_set b.holders (c.number-place.ensures.gives i) none in
    record {
      stand = (λ i. stand_of c.free.new.self b.cores.items (holders i) (c.in_ok-push.ensures.items i)) ∙ done.stand;
      stop = done.stop;
      stands = record {
        bench = subst (λ (h : List (Option ℕ)). IsBench c.free.new.self (map holds_of b.cores.items) h) (sym holders) done.stands;
        told = all_told b.chip c.free.new.self b.said.items c.push.new.self.items
            (told_by b.chip c.free.new.self (free_of c.args.register ∷ []) b.said.items (Frees c.args.core c.args.register ∷ []) c.push.new.self.items c.free.ensures.did c.in_ok-push.ensures.items
            (λ i. of_rank (sym c.requires.turn i) (free_of c.args.register) ∷ []))
            c.requires.stands.told;
      };
    }
