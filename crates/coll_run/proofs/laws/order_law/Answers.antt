use Rattle.coll_run.proofs.OrderLemmas.{mirrored, rises}
use Rattle.coll_run.proofs.laws.order_law.Goals as goal

pub returns : goal.returns
returns c = record {
  rises = λ more nue len rank i j one other low less first second. rises more nue len rank i j one other low less first second;
  mirrored = λ more nue len rank i one low at. mirrored more nue len rank i one low at;
}
