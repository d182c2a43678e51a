use Rattle.std.proofs.Common.{◌≡◌, ℕ, ◌≤◌, List, ◌++◌, length, take, sym, ap, ◌∙◌, subst}
use Rattle.scc_proto.specs.Ports.{Sight}
use Rattle.put_get.specs.Cores.{Private}
use Rattle.send_recv.specs.Ops.{RecvAt}
use Rattle.send_recv.specs.Ranks.{receiving}
use Rattle.send_recv.specs.Receiving.{RecvStands, RecvTurned}
use Rattle.send_recv.specs.declared.answers.RecvTurn.{RecvTurn}
use Rattle.rcce_ue.proofs.FrontLemmas.{asked, back_is, front_is, stands_in}
use Rattle.rcce_ue.proofs.receiving.OpenReceive.turn.Goals as goal

-- a turn, into the front of the inbox
module _ (op now : RecvAt) (len : ℕ) (kept : len ≡ op.head.len) (seen : op ≡ now) where
  turned_in : (s t : Sight) (c d : Private) (next : RecvAt) (inbox front after rest : List ℕ) (answer : RecvTurn) → front ≡ take len inbox → length front ≡ len → length after ≡ length front
      → RecvTurned (receiving s c op front) (receiving t d next after) answer → RecvTurned (receiving s c now (take now.head.len inbox)) (receiving t d next (take now.head.len (after ++ rest))) answer
  turned_in s t c d next inbox front after rest answer is long same turned =
      subst (λ (x : RecvAt). RecvTurned (receiving s c x (take now.head.len inbox)) (receiving t d next (take now.head.len (after ++ rest))) answer) seen
      (subst (λ (l : List ℕ). RecvTurned (receiving s c op l) (receiving t d next (take now.head.len (after ++ rest))) answer) (front_is op now len kept seen inbox front is)
      (subst (λ (l : List ℕ). RecvTurned (receiving s c op front) (receiving t d next l) answer) (back_is op now len kept seen after rest front long same) turned))

pub split_at_mut-front-requires : goal.split_at_mut-front-requires
split_at_mut-front-requires g c = subst (λ (n : ℕ). n ≤ length c.args.inbox.now) (sym (asked c.self.inside.op c.args.self.now c.self.inside.len c.self.invariant c.self.view_is)) c.requires.within

pub turn-requires : goal.turn-requires
turn-requires g c = record {
  stands = stands_in c.self.inside.op c.args.self.now c.self.inside.len c.self.invariant c.self.view_is (g.P.Port.sight c.args.port.now) c.args.core.now c.args.inbox.now c.split_at_mut-front.result.0.now
      c.split_at_mut-front.ensures.front c.requires.stands;
}

pub invariant_of-self : goal.invariant_of-self
invariant_of-self g c = c.self.invariant ∙ sym (ap (λ h. h.len) c.turn.ensures.turned.same.1)

pub returns-clause-stands : goal.returns-clause-stands
returns-clause-stands g c =
    subst (λ (l : List ℕ). RecvStands (g.P.Port.sight c.turn.new.port) c.turn.new.core c.turn.new.self l)
    (back_is c.self.inside.op c.args.self.now c.self.inside.len c.self.invariant c.self.view_is c.turn.new.bytes c.split_at_mut-front.result.1.now c.split_at_mut-front.result.0.now c.split_at_mut-front.ensures.front_len c.turn.auto.bytes)
    c.turn.ensures.stands

pub returns-clause-turned : goal.returns-clause-turned
returns-clause-turned g c =
    turned_in c.self.inside.op c.args.self.now c.self.inside.len c.self.invariant c.self.view_is (g.P.Port.sight c.args.port.now) (g.P.Port.sight c.turn.new.port) c.args.core.now c.turn.new.core c.turn.new.self
    c.args.inbox.now c.split_at_mut-front.result.0.now c.turn.new.bytes c.split_at_mut-front.result.1.now c.turn.result c.split_at_mut-front.ensures.front c.split_at_mut-front.ensures.front_len c.turn.auto.bytes c.turn.ensures.turned

pub returns-clause-steps : goal.returns-clause-steps
returns-clause-steps g c = c.turn.ensures.steps
