use Rattle.scc_base.specs.declared.layouts.Layout.TheVariants.{BitFlags}
use Rattle.scc_proto.proofs.Messages.TwoChunks.{chunks_run, chunks_permitted, chunks_received, chunks_sent}
use Rattle.scc_proto.proofs.examples.two_chunks_arrive_by_bits.Goals as goal

pub returns : goal.returns
returns c = record { is_run = chunks_run BitFlags; permitted = chunks_permitted BitFlags; received = chunks_received BitFlags; sent = chunks_sent BitFlags }
