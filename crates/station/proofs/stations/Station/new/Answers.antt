use Rattle.std.proofs.Common.{ap}
use Rattle.put_get.specs.Cores.{Private}
use Rattle.station.proofs.StationLemmas.{free_at_new}
use Rattle.station.proofs.stations.Station.new.Goals as goal

pub returns-clause-free : goal.returns-clause-free
returns-clause-free g c = free_at_new _ (ap (λ (p : Private). p.out) c.new.ensures) c.new-2.ensures.empty c.new-3.ensures.unset

pub returns-clause-evictor : goal.returns-clause-evictor
returns-clause-evictor g c = ap (λ (p : Private). p.answers) c.new.ensures

pub returns-clause-counts : goal.returns-clause-counts
returns-clause-counts g c = (ap (λ (p : Private). p.evictions) c.new.ensures, ap (λ (p : Private). p.asked) c.new.ensures)

pub returns-clause-empty : goal.returns-clause-empty
returns-clause-empty g c = ap (λ (p : Private). p.lines) c.new.ensures
