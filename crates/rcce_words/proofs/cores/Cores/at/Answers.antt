use Rattle.std.proofs.Common.{◌≡◌, ◌<◌, ℕ, List, ap, arith, length, slice_index, subst, sym}
use Rattle.rcce_words.proofs.HostLemmas.{core_below}
use Rattle.rcce_words.proofs.cores.Cores.at.Goals as goal

pub of-requires : goal.of-requires
of-requires c =
    let same : c.deref.result.now ≡ c.self.inside.numbers.items = c.deref.ensures.0 in
    record {
      below = subst (λ (xs : List ℕ). slice_index xs c.args.place < 48) (sym same)
          (core_below c.self.inside.numbers.items c.self.invariant c.args.place (omega (arith, ap length c.self.view_is)));
    }
