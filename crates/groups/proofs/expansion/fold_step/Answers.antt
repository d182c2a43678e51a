use Rattle.std.proofs.Common.{◌≡◌, ◌+◌, ◌*◌, ◌/◌, arith}
use Rattle.groups.specs.Collectives.{others_of}
use Rattle.groups.proofs.StepLemmas.{get_recv, get_fold}
use Rattle.groups.proofs.expansion.fold_step.Goals as goal

pub returns-then-k-eq0 : goal.returns-then-k-eq0
returns-then-k-eq0 c =
    let even : c.args.k ≡ 2 * (c.args.k / 2) = omega arith in
    record { gives = get_recv c.args.head (others_of c.args.setup.now c.args.comm c.args.r c.args.place) c.args.k (c.args.k / 2) c.other_at-from.result even c.other_at-from.ensures.gives }

pub returns-else-k-eq0 : goal.returns-else-k-eq0
returns-else-k-eq0 c =
    let odd : c.args.k ≡ 2 * (c.args.k / 2) + 1 = omega arith in
    record { gives = get_fold c.args.head (others_of c.args.setup.now c.args.comm c.args.r c.args.place) c.args.k (c.args.k / 2) c.other_at-from.result odd c.other_at-from.ensures.gives }
