use Rattle.script_gen.specs.Scripts.{gen_script_of}
use Rattle.script_gen.proofs.Sums.{bytes_came, sends_came}
use Rattle.script_gen.proofs.Usual.{gen_usual}
use Rattle.script_gen.proofs.laws.sent_messages_came.Goals as goal

pub returns-clause-messages : goal.returns-clause-messages
returns-clause-messages c = λ nue s. sends_came (gen_script_of nue s) (gen_usual nue s)

pub returns-clause-bytes : goal.returns-clause-bytes
returns-clause-bytes c = λ nue s. bytes_came (gen_script_of nue s) (gen_usual nue s)
