use Rattle.call_tap.proofs.TapLaws.{fresh_read}
use Rattle.call_tap.proofs.taps.Tap.new.Goals as goal

pub returns : goal.returns
returns c = record { read = fresh_read _ c.args.setup c.args.rank c.in_ok-monitor.ensures.setup.0 c.in_ok-monitor.ensures.setup.1 c.in_ok-monitor.ensures.follows c.in_ok-kept.ensures.none }
