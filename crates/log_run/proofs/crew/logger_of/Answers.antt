use Rattle.std.proofs.Common.{Option, [], subst, sym}
use Rattle.scc_base.specs.Setups.{SetupView}
use Rattle.rcce_ue.specs.Ues.{UeView}
use Rattle.rcce_run.specs.UeRuns.{IsFreshUe}
use Rattle.call_tap.specs.declared.taps.Tap.{Tap}
use Rattle.call_tap.specs.Taps.{HasRead}
use Rattle.log_run.specs.Loggers.{IsTapped}
use Rattle.log_run.proofs.crew.logger_of.Goals as goal

pub returns : goal.returns
returns c =
    let script = c.args.scripts.now in
    let setup = c.args.setup.now in
    let rank = c.args.rank in
    let made : IsFreshUe script c.copy-2.result rank c.in_ok-ue.ue = record { machine = c.in_ok-ue.ensures.machine; tied = c.in_ok-ue.ensures.tied } in
    let ue : IsFreshUe script setup rank c.in_ok-ue.ue = subst (λ (s : SetupView). IsFreshUe script s rank c.in_ok-ue.ue) c.copy-2.ensures.gives made in
    let tap : HasRead c.in_ok-tap.tap setup rank [] = subst (λ (s : SetupView). HasRead c.in_ok-tap.tap s rank []) c.copy.ensures.gives c.in_ok-tap.ensures.read in
    record {
      fresh = subst (λ (u : UeView). IsFreshUe script setup rank u) (sym c.new-3.ensures.worker) ue;
      tapped = subst (λ (t : Option Tap). IsTapped t setup rank []) (sym c.new-3.ensures.tap) tap;
    }
