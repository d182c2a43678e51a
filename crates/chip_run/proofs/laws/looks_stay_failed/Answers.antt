use Rattle.chip_run.proofs.Looks.{raise_waits, waits_same}
use Rattle.chip_run.proofs.WaitsLike.{waits_carried, waits_like}
use Rattle.chip_run.proofs.laws.looks_stay_failed.Goals as goal

pub returns-clause-alike : goal.returns-clause-alike
returns-clause-alike c = λ s one other records recs a b like k want low failed. waits_like s one other records recs a b like k low want failed

pub returns-clause-carried : goal.returns-clause-carried
returns-clause-carried c =
    λ s at now seen records me rec before rest want was_agrees agrees low is one two whole after others failed.
    waits_carried s at now seen records me rec before rest want was_agrees agrees low is one two whole after others failed

pub returns-clause-same : goal.returns-clause-same
returns-clause-same c = λ s view me rec now want like failed. waits_same s view me rec now like want failed

pub returns-clause-raised : goal.returns-clause-raised
returns-clause-raised c = λ s memory records me to head part message chunk agrees peers stage up head_is failed.
    raise_waits s memory records me to head part message chunk agrees peers stage up head_is failed
