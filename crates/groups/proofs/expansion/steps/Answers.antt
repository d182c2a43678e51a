use Rattle.std.proofs.Common.{◌≡◌, ◌<◌, ℕ, arith, length, rules, subst}
use Rattle.scc_base.specs.Setups.{size_of}
use Rattle.groups.specs.Collectives.{comm_of, root_place, root_steps, others_of}
use Rattle.groups.proofs.StepLemmas.{others_length}
use Rattle.groups.proofs.expansion.steps.Goals as goal

pub returns-then-place-root : goal.returns-then-place-root
returns-then-place-root c =
    let s = c.args.setup.now in
    let list = others_of s (comm_of c.args.c) c.args.r (root_place c.args.c) in
    let Below : ℕ → Type 0 = λ n. c.place-place.result < size_of s n c.args.r in
    let below : c.place-place.result < size_of s (comm_of c.args.c) c.args.r = subst Below c.comm.ensures.gives c.place-place.ensures.below in
    let low : root_place c.args.c < size_of s (comm_of c.args.c) c.args.r = omega (arith, below, c.if-place-root.true, c.root.ensures.gives) in
    let count = others_length s (comm_of c.args.c) c.args.r (root_place c.args.c) low in
    let Size : ℕ → Type 0 = λ n. c.group_size-others.result ≡ size_of s n c.args.r in
    let size : c.group_size-others.result ≡ size_of s (comm_of c.args.c) c.args.r = subst Size c.comm-then-place-root.ensures.gives c.group_size-others.ensures.gives in
    let long : length list ≡ c.from.result = omega (arith, count, size, c.from.ensures) in
    let here : c.root_count.result ≡ length (root_steps c.args.c list) = c.root_count.ensures.gives list long in
    search (rules, here)
