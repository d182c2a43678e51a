use Rattle.trace_laws.proofs.InverseLemmas.{lines_counted, read_back, read_long}
use Rattle.trace_laws.proofs.ToldLemmas.{told_whole}
use Rattle.trace_laws.proofs.laws.inverse_law.Goals as goal

pub returns-clause-read : goal.returns-clause-read
returns-clause-read c = read_back

pub returns-clause-long : goal.returns-clause-long
returns-clause-long c = read_long

pub returns-clause-lines : goal.returns-clause-lines
returns-clause-lines c = lines_counted

pub returns-clause-same : goal.returns-clause-same
returns-clause-same c = told_whole
