use Rattle.std.proofs.Common.{ap}
use Rattle.scc_proto.specs.Passed.{call_in_stage}
use Rattle.scc_proto.specs.Records.{chunk_of}
use Rattle.scc_proto.proofs.Words.WordFacts.{passed_is, idle_opens_nothing}
use Rattle.scc_proto.proofs.laws.open_call_law.Goals as goal

pub returns-clause-passed : goal.returns-clause-passed
returns-clause-passed c = λ s records me. passed_is s records me

pub returns-clause-idle : goal.returns-clause-idle
returns-clause-idle c = λ s rec idle. idle_opens_nothing s rec idle

pub returns-clause-drafting : goal.returns-clause-drafting
returns-clause-drafting c = λ s rec header chunk is. ap (call_in_stage (chunk_of s)) is

pub returns-clause-sending : goal.returns-clause-sending
returns-clause-sending c = λ s rec to part message chunk is. ap (call_in_stage (chunk_of s)) is

pub returns-clause-between : goal.returns-clause-between
returns-clause-between c = λ s rec from message is. ap (call_in_stage (chunk_of s)) is

pub returns-clause-taking : goal.returns-clause-taking
returns-clause-taking c = λ s rec from message chunk is. ap (call_in_stage (chunk_of s)) is

pub returns-clause-barrier : goal.returns-clause-barrier
returns-clause-barrier c = λ s rec comm seen released is. ap (call_in_stage (chunk_of s)) is
