use Rattle.scc_proto.proofs.Words.WordFacts.{head_is, is_head_of, post_head_is, is_post_head_of}
use Rattle.scc_proto.proofs.laws.head_law.Goals as goal

pub returns-clause-head : goal.returns-clause-head
returns-clause-head c = λ head. (head_is head, is_head_of head)

pub returns-clause-post : goal.returns-clause-post
returns-clause-post c = λ head. (post_head_is head, is_post_head_of head)
