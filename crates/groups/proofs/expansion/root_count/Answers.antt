use Rattle.std.proofs.Common.{arith}
use Rattle.scc_base.specs.declared.kinds.Kind.TheVariants as kind
use Rattle.groups.specs.Collectives.{head_of_kind}
use Rattle.groups.proofs.StepLemmas.{reduce_length, allreduce_length}
use Rattle.groups.proofs.expansion.root_count.Goals as goal

pub returns-in-Reduce : goal.returns-in-Reduce
returns-in-Reduce c = record {
  gives = λ list e. let all = reduce_length (head_of_kind kind.Reduce c.in-Reduce.comm c.in-Reduce.len) list in rw c.in-Reduce.is (omega (arith, e, all));
}

pub returns-in-Allreduce : goal.returns-in-Allreduce
returns-in-Allreduce c = record {
  gives = λ list e. let all = allreduce_length (head_of_kind kind.AllUp c.in-Allreduce.comm c.in-Allreduce.len) (head_of_kind kind.AllDown c.in-Allreduce.comm c.in-Allreduce.len) list in
      rw c.in-Allreduce.is (omega (arith, e, all));
}
