use Rattle.std.proofs.Common.{◌≡◌, length, refl, sym, ap, ◌∙◌, arith}
use Rattle.std.proofs.lemmas.List.{with_items_is}
use Rattle.std.specs.Vec.{with_items}
use Rattle.run_rows.proofs.OpLemmas.{op_ended, op_spelled}
use Rattle.run_rows.proofs.coll_members.Member.go_on.Goals as goal

pub turn-turn-requires : goal.turn-turn-requires
turn-turn-requires g c =
    let m = c.args.self.now in
    record { stands = op_spelled (g.P.Port.sight c.args.port.now) m.core m.slot c.args.op c.deref.ensures.value c.deref_mut.ensures.value c.requires.stands }

pub returns-in-Done : goal.returns-in-Done
returns-in-Done g c =
    let m = c.args.self.now in
    let st = op_spelled (g.P.Port.sight c.args.port.now) m.core m.slot c.args.op c.deref.ensures.value c.deref_mut.ensures.value c.requires.stands in
    let new = c.end.new.self in
    record {
      stands = op_ended (g.P.Port.sight c.turn-turn.new.port) c.turn-turn.new.core new.core c.turn-turn.new.slot new.slot new.src.items new.dst.items new.op
          (c.in-Done.ensures.ended st.0 st.1 refl).no_call c.end.ensures.core c.end.ensures.slot (c.end.ensures.op ∙ c.requires.no_op);
      did = (c.in-Done.ensures.turned.events, c.in-Done.ensures.turned.did);
    }

pub returns-in-Waiting : goal.returns-in-Waiting
returns-in-Waiting g c =
    let m = c.args.self.now in
    let st = op_spelled (g.P.Port.sight c.args.port.now) m.core m.slot c.args.op c.deref.ensures.value c.deref_mut.ensures.value c.requires.stands in
    let long : length c.turn-turn.new.dst ≡ m.dst.len = omega (arith, ap length c.deref_mut.ensures.value, c.turn-turn.auto.dst, m.dst.ok.0) in
    let back : (with_items m.dst c.turn-turn.new.dst).items ≡ c.turn-turn.new.dst = with_items_is m.dst c.turn-turn.new.dst long in
    record {
      stands = op_spelled (g.P.Port.sight c.turn-turn.new.port) c.turn-turn.new.core c.turn-turn.new.slot c.turn-turn.new.self (sym c.deref.ensures.value) back
          (st.0, c.in-Waiting.ensures.stands st.0 st.1);
      did = (c.in-Waiting.ensures.turned.events, c.in-Waiting.ensures.turned.did);
    }

pub returns-in_default : goal.returns-in_default
returns-in_default g c =
    let m = c.args.self.now in
    let st = op_spelled (g.P.Port.sight c.args.port.now) m.core m.slot c.args.op c.deref.ensures.value c.deref_mut.ensures.value c.requires.stands in
    let long : length c.turn-turn.new.dst ≡ m.dst.len = omega (arith, ap length c.deref_mut.ensures.value, c.turn-turn.auto.dst, m.dst.ok.0) in
    let back : (with_items m.dst c.turn-turn.new.dst).items ≡ c.turn-turn.new.dst = with_items_is m.dst c.turn-turn.new.dst long in
    record {
      stands = op_spelled (g.P.Port.sight c.turn-turn.new.port) c.turn-turn.new.core c.turn-turn.new.slot c.turn-turn.new.self (sym c.deref.ensures.value) back
          (st.0, c.turn-turn.ensures.stands st.0 st.1);
      did = (c.turn-turn.ensures.turned.events, c.turn-turn.ensures.turned.did);
    }
