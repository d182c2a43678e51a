use Rattle.std.proofs.Common.{◌≡◌, ℕ, ◌≤◌, List, ◌++◌, length, take, sym, ap, ◌∙◌, subst}
use Rattle.scc_proto.specs.Ports.{Sight}
use Rattle.put_get.specs.Cores.{Private}
use Rattle.send_recv.specs.Ops.{RecvAt}
use Rattle.send_recv.specs.Ranks.{receiving}
use Rattle.send_recv.specs.Receiving.{RecvStands}
use Rattle.send_recv.specs.Batches.{ReadLines, is_reading}
use Rattle.send_recv.proofs.Loops.BatchLoop.{read_same}
use Rattle.rcce_ue.proofs.FrontLemmas.{asked, back_is, front_is, stands_in}
use Rattle.rcce_ue.proofs.receiving.OpenReceive.read_lines.Goals as goal

-- lines, into the front of the inbox
module _ (op now : RecvAt) (len : ℕ) (kept : len ≡ op.head.len) (seen : op ≡ now) where
  read_in : (s t : Sight) (c d : Private) (next : RecvAt) (inbox front after rest : List ℕ) → front ≡ take len inbox → length front ≡ len → length after ≡ length front
      → ReadLines (receiving s c op front) (receiving t d next after) → ReadLines (receiving s c now (take now.head.len inbox)) (receiving t d next (take now.head.len (after ++ rest)))
  read_in s t c d next inbox front after rest is long same read =
      subst (λ (x : RecvAt). ReadLines (receiving s c x (take now.head.len inbox)) (receiving t d next (take now.head.len (after ++ rest)))) seen
      (subst (λ (l : List ℕ). ReadLines (receiving s c op l) (receiving t d next (take now.head.len (after ++ rest)))) (front_is op now len kept seen inbox front is)
      (subst (λ (l : List ℕ). ReadLines (receiving s c op front) (receiving t d next l)) (back_is op now len kept seen after rest front long same) read))

pub split_at_mut-front-requires : goal.split_at_mut-front-requires
split_at_mut-front-requires g c = subst (λ (n : ℕ). n ≤ length c.args.inbox.now) (sym (asked c.self.inside.op c.args.self.now c.self.inside.len c.self.invariant c.self.view_is)) c.requires.within

pub read_lines-requires : goal.read_lines-requires
read_lines-requires g c = record {
  stands = stands_in c.self.inside.op c.args.self.now c.self.inside.len c.self.invariant c.self.view_is (g.P.Port.sight c.args.port.now) c.args.core.now c.args.inbox.now c.split_at_mut-front.result.0.now
      c.split_at_mut-front.ensures.front c.requires.stands;
  reading = ap (λ (x : RecvAt). is_reading x.stage) c.self.view_is ∙ c.requires.reading;
}

pub invariant_of-self : goal.invariant_of-self
invariant_of-self g c = c.self.invariant ∙ sym (ap (λ h. h.len) (read_same c.read_lines.ensures.read))

pub returns-clause-stands : goal.returns-clause-stands
returns-clause-stands g c =
    subst (λ (l : List ℕ). RecvStands (g.P.Port.sight c.read_lines.new.port) c.read_lines.new.core c.read_lines.new.self l)
    (back_is c.self.inside.op c.args.self.now c.self.inside.len c.self.invariant c.self.view_is c.read_lines.new.bytes c.split_at_mut-front.result.1.now c.split_at_mut-front.result.0.now c.split_at_mut-front.ensures.front_len c.read_lines.auto.bytes)
    c.read_lines.ensures.stands

pub returns-clause-read : goal.returns-clause-read
returns-clause-read g c =
    read_in c.self.inside.op c.args.self.now c.self.inside.len c.self.invariant c.self.view_is (g.P.Port.sight c.args.port.now) (g.P.Port.sight c.read_lines.new.port) c.args.core.now c.read_lines.new.core c.read_lines.new.self
    c.args.inbox.now c.split_at_mut-front.result.0.now c.read_lines.new.bytes c.split_at_mut-front.result.1.now c.split_at_mut-front.ensures.front c.split_at_mut-front.ensures.front_len c.read_lines.auto.bytes c.read_lines.ensures.read
