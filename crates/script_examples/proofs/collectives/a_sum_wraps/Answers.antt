use Rattle.std.proofs.Common.{refl}
use Rattle.std.specs.Int.{int_wrap}
use Rattle.scc_base.specs.Communicators.{key_of}
use Rattle.texts.specs.Numbers.{number_of}
use Rattle.script_machine.specs.Local.{local_next}
use Rattle.script_machine.specs.Program.{unrolled_items}
use Rattle.script_examples.proofs.collectives.a_sum_wraps.Goals as goal

pub returns : goal.returns
unfolding int_wrap key_of number_of local_next unrolled_items
returns c = record { wraps = refl }
