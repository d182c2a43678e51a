use Rattle.std.proofs.Common.{ℕ, List, arith, subst, sym}
use Rattle.rcce_words.specs.Cores.{AreCores}
use Rattle.rcce_words.proofs.HostLemmas.{has_room, push_core}
use Rattle.rcce_words.proofs.cores.Cores.add.Goals as goal

pub push-requires : goal.push-requires
push-requires c = (omega arith, has_room c.number.result c.self.inside.numbers.items c.self.invariant (cc) c.number.ensures.below)

pub invariant_of-self : goal.invariant_of-self
invariant_of-self c =
    subst (λ (xs : List ℕ). AreCores xs) (sym c.push.ensures.items)
    (push_core c.number.result c.self.inside.numbers.items c.self.invariant (cc) c.number.ensures.below)
