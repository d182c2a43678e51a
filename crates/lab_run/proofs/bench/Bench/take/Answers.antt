use Rattle.std.proofs.Common.{[], ◌∷◌, ◌≡◌, ◌<◌, ◌∙◌, ap, ℕ, List, Option, Some, if◌then◌else◌, map, slice_set, subst, sym}
use Rattle.scc_base.specs.Events.{take_of}
use Rattle.chip_memory.specs.Chips.{of_rank}
use Rattle.lab_plain.specs.declared.said.Said.TheVariants.{Takes}
use Rattle.lab_plain.specs.Meaning.{holder_of, is_holder}
use Rattle.lab_run.specs.Stands.{IsBench, holds_of, stand_of}
use Rattle.lab_run.proofs.RegisterLaws.{may_take, take_done}
use Rattle.lab_run.proofs.ToldLaws.{all_told, told_by}
use Rattle.lab_run.proofs.bench.Bench.take.Goals as goal

pub take-took-requires : goal.take-took-requires
take-took-requires c = record {
  permitted = may_take c.args.self.now.chip (map holds_of c.args.self.now.cores.items) c.args.self.now.holders c.args.register c.requires.stands.bench
      (subst (λ (r : ℕ). r < 48) (sym c.requires.turn) c.requires.below) (subst (λ (k : ℕ). k < 48) c.number-place.ensures.gives c.number-place.ensures.below) (ap (λ (r : ℕ). is_holder r (holder_of c.args.self.now.holders c.args.register)) c.requires.turn ∙ sym c.has.ensures ∙ c.if-has.false);
}

pub returns : goal.returns
returns c =
    let b = c.args.self.now in
    let took = c.take-took.result in
    let done = take_done took c.args.line c.args.core c.args.register c.args.expect b.chip c.take-took.new.self b.cores.items b.holders b.said.items c.requires.stands.bench c.requires.turn
    c.requires.below (subst (λ (k : ℕ). k < 48) c.number-place.ensures.gives c.number-place.ensures.below) (sym c.has.ensures ∙ c.if-has.false) c.take-took.ensures.did c.tells.ensures.run in
    let holder : c.holder_after.result ≡ (if took then Some c.args.core else holder_of b.holders c.args.register)
    = c.holder_after.ensures ∙ (λ i. if took then Some c.args.core else holder_of b.holders (c.number-place.ensures.gives i)) in
    let holders : slice_set b.holders c.number-place.result c.holder_after.result ≡ slice_set b.holders c.args.register (if took then Some c.args.core else holder_of b.holders c.args.register)
    = λ i. slice_set b.holders (c.number-place.ensures.gives i) (holder i) in
    record {
      stand = (λ i. stand_of c.take-took.new.self b.cores.items (holders i) (c.in_ok-push.ensures.items i)) ∙ done.stand;
      stop = c.check_take.ensures ∙ done.stop;
      stands = record {
        bench = subst (λ (h : List (Option ℕ)). IsBench c.take-took.new.self (map holds_of b.cores.items) h) (sym holders) done.stands;
        told = all_told b.chip c.take-took.new.self b.said.items c.push.new.self.items
            (told_by b.chip c.take-took.new.self (take_of c.args.register took ∷ []) b.said.items (Takes c.args.core c.args.register took ∷ []) c.push.new.self.items c.take-took.ensures.did c.in_ok-push.ensures.items
            (λ i. of_rank (sym c.requires.turn i) (take_of c.args.register took) ∷ []))
            c.requires.stands.told;
      };
    }
