use Rattle.std.proofs.Common.{◌≡◌, [], length, sym, ap, ◌∙◌, subst, arith}
use Rattle.std.proofs.lemmas.List.{with_items_is}
use Rattle.std.specs.Vec.{with_items}
use Rattle.coll_more.specs.Standing.{MoreStands}
use Rattle.coll_more.specs.Ops.{taking_part}
use Rattle.coll_run.specs.Teams.{MemberView}
use Rattle.coll_run.proofs.CallTurns.{gone_on}
use Rattle.coll_run.proofs.members.Member.go_on.Goals as goal

pub turn-requires : goal.turn-requires
turn-requires g c =
    let m = c.self.inside in
    let spelled : MemberView = record { core = m.core; slot = m.slot; op = m.op; src = c.deref.result.now; dst = c.deref_mut.result.now; met = m.met } in
    let same : c.args.self.now ≡ spelled =
    sym c.self.view_is ∙ (λ i. record { core = m.core; slot = m.slot; op = m.op; src = sym c.deref.ensures.value i; dst = sym c.deref_mut.ensures.value i; met = m.met }) in
    record { stands = ([], subst (λ (x : MemberView). MoreStands [] (taking_part (g.P.Port.sight c.args.port.now) x.core x.op x.slot x.src x.dst)) same c.requires.stands) }

pub returns : goal.returns
returns g c =
    let m = c.self.inside in
    let spelled : MemberView = record { core = m.core; slot = m.slot; op = m.op; src = c.deref.result.now; dst = c.deref_mut.result.now; met = m.met } in
    let same : c.args.self.now ≡ spelled =
    sym c.self.view_is ∙ (λ i. record { core = m.core; slot = m.slot; op = m.op; src = sym c.deref.ensures.value i; dst = sym c.deref_mut.ensures.value i; met = m.met }) in
    let given : length c.deref_mut.result.now ≡ length m.dst.items = ap length c.deref_mut.ensures.value in
    let room : length c.turn.new.dst ≡ length c.deref_mut.result.now = omega (arith, c.turn.auto.dst) in
    let long : length c.turn.new.dst ≡ m.dst.len = omega (arith, given, room, m.dst.ok.0) in
    let back : (with_items m.dst c.turn.new.dst).items ≡ c.turn.new.dst = with_items_is m.dst c.turn.new.dst long in
    let new : MemberView = record { core = c.turn.new.core; slot = c.turn.new.slot; op = c.turn.new.self; src = m.src.items; dst = c.turn.new.dst; met = m.met } in
    record {
      goes = gone_on g.P.Port.stepped c.args.self.now spelled (g.P.Port.sight c.args.port.now) new _ (g.P.Port.sight c.turn.new.port) c.turn.result same (λ i. record new { dst = back i })
          (sym c.deref.ensures.value) (ap (λ (x : MemberView). x.src) c.self.view_is) (ap (λ (x : MemberView). x.met) c.self.view_is)
          (c.turn.ensures.stands [] (subst (λ (x : MemberView). MoreStands [] (taking_part (g.P.Port.sight c.args.port.now) x.core x.op x.slot x.src x.dst)) same c.requires.stands))
          c.turn.ensures.turned c.turn.ensures.steps;
    }
