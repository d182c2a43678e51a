use Rattle.std.proofs.Common.{ap, sym, refl, ◌∙◌}
use Rattle.scc_base.specs.Heads.{MessageHead}
use Rattle.scc_base.specs.Setups.{host_of}
use Rattle.send_recv.specs.declared.stages.RecvStage.TheVariants.{Lower}
use Rattle.send_recv.specs.declared.answers.RecvTurn.TheVariants.{Mismatch}
use Rattle.send_recv.specs.Ops.{RecvAt}
use Rattle.send_recv.specs.Steps.{Same, Differs}
use Rattle.send_recv.proofs.Receiving.HeadTurn.{read_at, head_is_valid, same_head_is, same_head_not}
use Rattle.send_recv.proofs.receives.RecvOp.read_head.Goals as goal

pub head_from-sent-requires : goal.head_from-sent-requires
head_from-sent-requires g c = record {
  valid = head_is_valid (g.P.Port.sight c.args.port.now) (g.P.Port.sight c.line_read-words.new.port) c.args.core.now _ c.args.self.now _ _ _ _ c.requires.seen.0
      c.known.ensures.valid c.requires.peers c.requires.seen.1 c.known-2.ensures.sound c.cl1invmb.ensures c.new-line.ensures.gives
      (c.core_of.ensures.gives ∙ ap (λ (x : RecvAt). host_of (g.P.Port.sight c.args.port.now).seat.setup.hosts x.from) c.self.view_is) c.line_read-words.ensures.reads;
}

pub returns-then-is_same-clause-reads : goal.returns-then-is_same-clause-reads
returns-then-is_same-clause-reads g c = (
  c.line_read-words.result,
  read_at (g.P.Port.sight c.args.port.now) (g.P.Port.sight c.line_read-words.new.port) c.args.core.now _ _ c.args.self.now.from 0 _ _ _ c.cl1invmb.ensures c.new-line.ensures.gives
      (c.core_of.ensures.gives ∙ ap (λ (x : RecvAt). host_of (g.P.Port.sight c.args.port.now).seat.setup.hosts x.from) c.self.view_is) c.line_read-words.ensures.reads,
  Same (sym c.head_from-sent.ensures.gives ∙ same_head_is _ _ (sym c.is_same.ensures.tells ∙ c.if-is_same.true) ∙ ap (λ (x : RecvAt). x.head) c.self.view_is) (ap (λ (x : RecvAt). record x { stage = Lower }) c.self.view_is) refl,
)

pub returns-clause-reads : goal.returns-clause-reads
returns-clause-reads g c = (
  c.line_read-words.result,
  read_at (g.P.Port.sight c.args.port.now) (g.P.Port.sight c.line_read-words.new.port) c.args.core.now _ _ c.args.self.now.from 0 _ _ _ c.cl1invmb.ensures c.new-line.ensures.gives
      (c.core_of.ensures.gives ∙ ap (λ (x : RecvAt). host_of (g.P.Port.sight c.args.port.now).seat.setup.hosts x.from) c.self.view_is) c.line_read-words.ensures.reads,
  Differs (λ e. same_head_not _ _ (sym c.is_same.ensures.tells ∙ c.if-is_same.false) (c.head_from-sent.ensures.gives ∙ e ∙ sym (ap (λ (x : RecvAt). x.head) c.self.view_is)))
      refl (ap (λ (h : MessageHead). Mismatch h) c.head_from-sent.ensures.gives),
)
