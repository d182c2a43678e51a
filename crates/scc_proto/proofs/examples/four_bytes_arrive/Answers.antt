use Rattle.std.proofs.Common.{rules, refl}
use Rattle.scc_proto.specs.Records.{act_of, record_of}
use Rattle.scc_proto.specs.Messages.{has_all, bytes_from, is_zero_from}
use Rattle.scc_proto.proofs.examples.four_bytes_arrive.Goals as goal

pub returns-clause-permitted : goal.returns-clause-permitted
unfolding act_of has_all is_zero_from bytes_from
returns-clause-permitted c = search rules

pub returns-clause-received : goal.returns-clause-received
unfolding act_of record_of has_all is_zero_from bytes_from
returns-clause-received c = refl

pub returns-clause-passed : goal.returns-clause-passed
unfolding act_of record_of has_all is_zero_from bytes_from
returns-clause-passed c = refl

pub returns-clause-not_finished : goal.returns-clause-not_finished
unfolding act_of record_of has_all is_zero_from bytes_from
returns-clause-not_finished c = refl

pub returns-clause-open : goal.returns-clause-open
unfolding act_of record_of has_all is_zero_from bytes_from
returns-clause-open c = refl
