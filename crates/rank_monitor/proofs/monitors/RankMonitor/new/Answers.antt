use Rattle.std.proofs.Common.{None, ap, option_map}
use Rattle.std.proofs.lemmas.List.{get_or-replicate}
use Rattle.rank_monitor.specs.Held.{flag_words}
use Rattle.rank_monitor.proofs.monitors.RankMonitor.new.Goals as goal

pub returns-clause-follows : goal.returns-clause-follows
returns-clause-follows c = record { stands = c.in_ok-work.ensures.stands; held = λ core below. ap (option_map flag_words) (get_or-replicate 48 core None None below) }
