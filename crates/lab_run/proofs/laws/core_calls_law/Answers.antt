use Rattle.lab_run.proofs.CallLaws.{flush_call, get_call, invalidate_call, put_call, read_call, write_call}
use Rattle.lab_run.proofs.laws.core_calls_law.Goals as goal

pub returns : goal.returns
returns c = record { write = write_call; flush = flush_call; invalidate = invalidate_call; read = read_call; put = put_call; get = get_call }
