use Rattle.scc_proto.proofs.PermissionLaws.{header_where, chunk_where}
use Rattle.scc_proto.proofs.permission_laws.draft_law.Goals as goal

pub returns-clause-header : goal.returns-clause-header
returns-clause-header c = λ size k v rec. header_where size k v rec

pub returns-clause-chunk : goal.returns-clause-chunk
returns-clause-chunk c = λ size k v rec. chunk_where size k v rec
