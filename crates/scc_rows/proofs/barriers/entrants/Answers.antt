use Rattle.std.proofs.Common.{rules, ◌≢◌, sym, subst}
use Rattle.scc_base.specs.Setups.{SetupView}
use Rattle.scc_base.specs.Communicators.{rule_of}
use Rattle.scc_base.specs.declared.communicators.CommRule.TheVariants.{Absent}
use Rattle.scc_mesh.specs.Scenes.{about_in}
use Rattle.scc_rows.proofs.barriers.entrants.Goals as goal

pub join-requires : goal.join-requires
join-requires g c =
    let present : rule_of (about_in c.args.chip).comms c.args.comm ≢ Absent = search rules in
    record {
      stands = c.at.ensures.ready c.loop.team.about c.loop.team.size (subst (λ (s : SetupView). rule_of s.comms c.args.comm ≢ Absent) (sym c.loop.invariant) present);
    }
