-- What collective calls give, wherever steps lead.
use Rattle.script_rules.specs.Script.{Script}
use Rattle.std.proofs.Common.{◌≡◌, length}
use Rattle.plain_meaning.specs.Collectives.{AreOwnWays, CollectivesHold}
use Rattle.plain_meaning.specs.Meaning.{State, plain_end}
use Rattle.plain_meaning.specs.Messages.{AreDelivered}
use Rattle.plain_meaning.specs.Step.{Configuration}
use Rattle.script_rules.specs.Settled.{IsWholeScript}
use Rattle.plain_meaning.proofs.Collectives.BroadcastLaws.{broadcast}
use Rattle.plain_meaning.proofs.Collectives.CollectiveFits.{AreFit, are_fit}
use Rattle.plain_meaning.proofs.Arrivals.CountLaws.{counted}
use Rattle.plain_meaning.proofs.Messages.MessageLaws.{cells_kept, delivered, received_as_sent, to_plain_end}
use Rattle.plain_meaning.proofs.Arrivals.OthersCame.{all_came, others_gave, others_gave_to_all, root_came}
use Rattle.plain_meaning.proofs.OwnWays.OwnWayLaws.{own_ways}
use Rattle.plain_meaning.proofs.Collectives.ReductionLaws.{all_reduced, all_told, reduced}
use Rattle.plain_meaning.proofs.Collectives.UntouchedLaws.{untouched}

pub collectives : (script : Script) (c : Configuration State) → IsWholeScript script.nue script.items → AreFit script c → AreDelivered c → AreOwnWays script c → length c.cells ≡ script.nue → CollectivesHold script c
collectives script c whole fit delivered own even = record {
  messages = received_as_sent c delivered;
  broadcasts = broadcast script c delivered fit;
  reductions = reduced script c delivered fit;
  reductions_to_all = all_reduced script c delivered fit;
  told = all_told script c delivered fit;
  root_came = root_came script c delivered fit own even;
  others_gave = others_gave script c delivered fit own even;
  others_gave_to_all = others_gave_to_all script c delivered fit own even;
  all_came = all_came script c delivered fit own even;
  counted = counted script;
  untouched = untouched script whole;
}

-- and so at the plain end
pub plain_end_collectives : (script : Script) → IsWholeScript script.nue script.items → CollectivesHold script (plain_end script)
plain_end_collectives script whole =
    let (n, run) = to_plain_end script in
    let fit = are_fit script whole n (plain_end script) run in
    collectives script (plain_end script) whole fit (delivered script n (plain_end script) run) (own_ways script n (plain_end script) run) (cells_kept script n (plain_end script) run)
