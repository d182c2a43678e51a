use Rattle.std.proofs.Common.{◌≡◌, ◌∙◌, ap, subst, arith}
use Rattle.scc_base.specs.Setups.{SetupView, IsSetup, host_of}
use Rattle.scc_proto.proofs.Layouts.Roles.{own_word}
use Rattle.scc_proto.proofs.Runs.IdleLaws.{idle_at_start, idle_may_store}
use Rattle.scc_rows.proofs.turn_chips.kept.Goals as goal

pub store_then_load-requires : goal.store_then_load-requires
store_then_load-requires g c =
    let sight = g.P.Port.sight c.args.port.now in
    let valid : IsSetup sight.seat.setup = subst IsSetup c.setup-setup.ensures.gives c.nue-nue.ensures.valid in
    let core = c.core_of.ensures.gives ∙ ap (λ (s : SetupView). host_of s.hosts c.rank-rank.result) c.setup-setup.ensures.gives in
    let place : c.new-place.result ≡ own_word sight.seat.setup c.rank-rank.result 240 1 = c.new-place.ensures.gives ∙ (λ i. record { core = core i; line = 240; word = 1 }) in
    idle_may_store sight c.rank-rank.result 240 1 c.args.value valid c.rank-rank.ensures.below (omega arith) (idle_at_start sight c.requires.fresh) c.new-place.result place
