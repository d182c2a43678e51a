use Rattle.std.proofs.Common.{rules, refl}
use Rattle.scc_base.specs.Communicators.{key_of}
use Rattle.scc_proto.specs.Records.{act_of, record_of}
use Rattle.scc_proto.specs.Messages.{has_all, bytes_from, is_zero_from}
use Rattle.scc_proto.proofs.examples.two_meet_twice.Goals as goal

pub returns-clause-permitted : goal.returns-clause-permitted
unfolding act_of record_of has_all is_zero_from bytes_from key_of
returns-clause-permitted c = search rules

pub returns-clause-root : goal.returns-clause-root
unfolding act_of record_of has_all is_zero_from bytes_from key_of
returns-clause-root c = refl

pub returns-clause-member : goal.returns-clause-member
unfolding act_of record_of has_all is_zero_from bytes_from key_of
returns-clause-member c = refl
