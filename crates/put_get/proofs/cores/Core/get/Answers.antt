use Rattle.std.proofs.Common.{◌≡◌, [], take, refl, ◌∙◌, ap, subst, sym, arith}
use Rattle.std.proofs.lemmas.List.{length-set}
use Rattle.scc_base.specs.Setups.{SetupView, host_of}
use Rattle.put_get.specs.Transfers.{Gets}
use Rattle.put_get.proofs.StepLemmas.{steps_none, steps_both}
use Rattle.put_get.proofs.TransferLemmas.{reading_none, reading_next, reading_all, reads_at, line_is}
use Rattle.put_get.proofs.WorkLemmas.{spends_line, spends_lines, gets_from_reads}
use Rattle.put_get.proofs.cores.Core.get.Goals as goal

pub returns-then-dst-len-clause-steps : goal.returns-then-dst-len-clause-steps
returns-then-dst-len-clause-steps g c = steps_none g.P.Port.stepped (g.P.Port.sight c.args.port.now)

pub lines-init : goal.lines-init
lines-init g c = (
  reading_none _ (record c.args.self.now { lines = [] }) _ _ _ _ (assumption) c.requires.empty,
  steps_none g.P.Port.stepped (g.P.Port.sight c.args.port.now),
  refl,
)

pub lines-preserved : goal.lines-preserved
lines-preserved g c =
    let i = c.lines.invariant in
    let is = line_is c.new-line.result c.core_of-core.result c.args.at.first c.first.result c.lines.i c.new-line.ensures.gives c.first.ensures.gives in
    let one = reads_at _ _ is c.line_read.ensures.reads in
    let spent = spends_line one in
    let before = spends_lines (take c.lines.i c.lines.dst) (g.P.Port.sight c.args.port.now) (record c.args.self.now { lines = [] }) c.core_of-core.result c.args.at.first (g.P.Port.sight c.lines.port) c.lines.self i.0.reads in (
      reading_next _ _ _ _ c.lines.dst c.lines.i c.line_read.result _ _ _ _ (omega arith) i.0 one spent.spends.out,
      steps_both g.P.Port.stepped _ _ _ before.events spent.spends.events before.did spent.spends.did
          i.1 c.line_read.ensures.steps,
      i.2 ∙ sym (length-set c.lines.dst c.lines.i c.line_read.result),
    )

pub returns-clause-gets : goal.returns-clause-gets
returns-clause-gets g c =
    let i = c.lines.invariant in
    let core_is : c.core_of-core.result ≡ host_of (g.P.Port.sight c.args.port.now).seat.setup.hosts c.args.from =
    c.core_of-core.ensures.gives ∙ ap (λ (x : SetupView). host_of x.hosts c.args.from) c.setup.ensures.gives in
    subst (λ core. Gets (g.P.Port.sight c.args.port.now) c.args.self.now core c.args.at.first c.lines.dst (g.P.Port.sight c.lines.port) c.lines.self) core_is
    (gets_from_reads _ c.args.self.now _ _ c.lines.dst _ _ (reading_all _ _ _ _ c.lines.dst c.lines.i _ _ (omega arith) i.0))
