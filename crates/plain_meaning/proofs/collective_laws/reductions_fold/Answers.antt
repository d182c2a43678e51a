use Rattle.plain_meaning.proofs.Collectives.CollectiveFits.{are_fit}
use Rattle.plain_meaning.proofs.Messages.MessageLaws.{cells_kept, delivered}
use Rattle.plain_meaning.proofs.Arrivals.OthersCame.{all_came, others_gave, others_gave_to_all}
use Rattle.plain_meaning.proofs.OwnWays.OwnWayLaws.{own_ways}
use Rattle.plain_meaning.proofs.Collectives.ReductionLaws.{all_reduced, all_told, reduced}
use Rattle.plain_meaning.proofs.Collectives.UntouchedLaws.{untouched}
use Rattle.plain_meaning.proofs.collective_laws.reductions_fold.Goals as goal

pub returns-clause-root : goal.returns-clause-root
returns-clause-root c = λ script whole end reached. reduced script end (delivered script reached.0 end reached.1) (are_fit script whole reached.0 end reached.1)

pub returns-clause-first : goal.returns-clause-first
returns-clause-first c = λ script whole end reached. all_reduced script end (delivered script reached.0 end reached.1) (are_fit script whole reached.0 end reached.1)

pub returns-clause-others : goal.returns-clause-others
returns-clause-others c = λ script whole end reached. all_told script end (delivered script reached.0 end reached.1) (are_fit script whole reached.0 end reached.1)

pub returns-clause-others_gave : goal.returns-clause-others_gave
returns-clause-others_gave c = λ script whole end reached. others_gave script end (delivered script reached.0 end reached.1) (are_fit script whole reached.0 end reached.1) (own_ways script reached.0 end reached.1) (cells_kept script reached.0 end reached.1)

pub returns-clause-others_gave_to_all : goal.returns-clause-others_gave_to_all
returns-clause-others_gave_to_all c = λ script whole end reached. others_gave_to_all script end (delivered script reached.0 end reached.1) (are_fit script whole reached.0 end reached.1) (own_ways script reached.0 end reached.1) (cells_kept script reached.0 end reached.1)

pub returns-clause-all_came : goal.returns-clause-all_came
returns-clause-all_came c = λ script whole end reached. all_came script end (delivered script reached.0 end reached.1) (are_fit script whole reached.0 end reached.1) (own_ways script reached.0 end reached.1) (cells_kept script reached.0 end reached.1)

pub returns-clause-untouched : goal.returns-clause-untouched
returns-clause-untouched c = untouched
