use Rattle.sync_flags.proofs.HeapLemmas.{refused}
use Rattle.sync_flags.proofs.flags.flag_alloc.Goals as goal

pub returns-clause-full : goal.returns-clause-full
returns-clause-full c = refused c.args.heap.now.free c.malloc.result c.malloc.ensures.answer
