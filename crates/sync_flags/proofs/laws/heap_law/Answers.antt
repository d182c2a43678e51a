use Rattle.sync_flags.specs.Flags.{flag_value}
use Rattle.sync_flags.proofs.HeapStores.{heap_store_may, heap_bit_may}
use Rattle.sync_flags.proofs.laws.heap_law.Goals as goal

pub returns-clause-store : goal.returns-clause-store
returns-clause-store c = λ seat rec r f value valid lt high leaves. heap_store_may seat rec r f value valid lt high leaves

pub returns-clause-word : goal.returns-clause-word
returns-clause-word c = λ seat rec r f set valid lt high leaves. heap_store_may seat rec r f (flag_value set) valid lt high leaves

pub returns-clause-bit : goal.returns-clause-bit
returns-clause-bit c = λ seat rec r f b set valid lt high leaves free. heap_bit_may seat rec r f b set valid lt high leaves free
