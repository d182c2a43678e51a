use Rattle.std.proofs.Common.{◌≡◌, ◌≤◌, refl, get_or, [], length, sym, ◌∙◌, ap, subst, arith}
use Rattle.scc_base.specs.Setups.{SetupView, host_of}
use Rattle.scc_proto.specs.Ports.{MayMakeAll, record_in}
use Rattle.scc_proto.proofs.PortLaws.{did_both}
use Rattle.put_get.specs.Transfers.{put_stores}
use Rattle.put_get.proofs.StepLemmas.{steps_none, steps_both}
use Rattle.put_get.proofs.TransferLemmas.{putting_none, putting_next, putting_may, putting_all, none_waits, may_differ, writes_at, line_is}
use Rattle.put_get.proofs.cores.Core.put.Goals as goal

pub returns-then-src-len-clause-steps : goal.returns-then-src-len-clause-steps
returns-then-src-len-clause-steps g c = steps_none g.P.Port.stepped (g.P.Port.sight c.args.port.now)

pub lines-init : goal.lines-init
lines-init g c =
    let start = g.P.Port.sight c.args.port.now in
    let core_is : c.core_of-core.result ≡ host_of start.seat.setup.hosts c.args.to =
    c.core_of-core.ensures.gives ∙ ap (λ (x : SetupView). host_of x.hosts c.args.to) c.setup.ensures.gives in
    let few : length c.args.src.now ≤ c.args.at.lines = omega arith in (
      putting_none start c.args.self.now c.core_of-core.result c.args.at.first c.args.src.now c.requires.empty
          (subst (λ core. MayMakeAll start.seat (record_in start) (put_stores core c.args.at.first c.args.src.now)) (sym core_is) (c.requires.permitted few)),
      steps_none g.P.Port.stepped start,
      refl,
    )

pub lines-preserved : goal.lines-preserved
lines-preserved g c =
    let i = c.lines.invariant in
    let start = g.P.Port.sight c.args.port.now in
    let before = g.P.Port.sight c.lines.port in
    let written = g.P.Port.sight c.line_write.new.port in
    let end = g.P.Port.sight c.flush.new.port in
    let two = did_both start _ before _ written i.0.puts.did c.line_write.ensures.writes.did in
    let is = line_is c.new-line.result c.core_of-core.result c.args.at.first c.first.result c.lines.i c.new-line.ensures.gives c.first.ensures.gives in (
      putting_next _ _ _ _ _ c.lines.i (get_or c.args.src.now c.lines.i []) _ _ _ _ _ _ (omega arith) refl i.0 (writes_at _ _ is c.line_write.ensures.writes) c.flush.ensures.flushes,
      steps_both g.P.Port.stepped start written end _ _ two c.flush.ensures.flushes.did
          (steps_both g.P.Port.stepped start before written _ _ i.0.puts.did c.line_write.ensures.writes.did i.1 c.line_write.ensures.steps) c.flush.ensures.steps,
      refl,
    )

pub line_write-requires-clause-other : goal.line_write-requires-clause-other
line_write-requires-clause-other g c = may_differ c.lines.self c.new-line.result c.lines.invariant.0.out

pub line_write-requires-clause-permitted : goal.line_write-requires-clause-permitted
line_write-requires-clause-permitted g c = none_waits (g.P.Port.sight c.lines.port) c.lines.self.out c.lines.invariant.0.out

pub flush-requires : goal.flush-requires
flush-requires g c =
    let is = line_is c.new-line.result c.core_of-core.result c.args.at.first c.first.result c.lines.i c.new-line.ensures.gives c.first.ensures.gives in record {
      permitted = putting_may _ _ c.core_of-core.result c.args.at.first c.args.src.now c.lines.i (get_or c.args.src.now c.lines.i []) _ c.lines.self _ _ (omega arith) refl c.lines.invariant.0
          (writes_at _ _ is c.line_write.ensures.writes);
    }

pub returns-clause-puts : goal.returns-clause-puts
returns-clause-puts g c =
    putting_all _ _ c.core_of-core.result _ c.args.at.first c.args.src.now c.lines.i _ _ (omega arith)
    (c.core_of-core.ensures.gives ∙ ap (λ (x : SetupView). host_of x.hosts c.args.to) c.setup.ensures.gives) c.lines.invariant.0

pub returns-clause-steps : goal.returns-clause-steps
returns-clause-steps g c = c.lines.invariant.1
