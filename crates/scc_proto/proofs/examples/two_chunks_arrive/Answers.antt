use Rattle.scc_base.specs.declared.layouts.Layout.TheVariants.{LineFlags}
use Rattle.scc_proto.proofs.Messages.TwoChunks.{chunks_run, chunks_permitted, chunks_received, chunks_sent}
use Rattle.scc_proto.proofs.examples.two_chunks_arrive.Goals as goal

pub returns : goal.returns
returns c = record { is_run = chunks_run LineFlags; permitted = chunks_permitted LineFlags; received = chunks_received LineFlags; sent = chunks_sent LineFlags }
