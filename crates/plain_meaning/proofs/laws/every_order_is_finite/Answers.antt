use Rattle.script_machine.specs.Local.{most_steps_left}
use Rattle.plain_meaning.specs.Meaning.{State, next_of}
use Rattle.plain_meaning.proofs.Orders.EndLaws.{most_steps}
use Rattle.plain_meaning.proofs.Runs.PlainLaws.{state_lowers}
use Rattle.plain_meaning.proofs.Runs.RunLaws.{falls}
use Rattle.plain_meaning.proofs.laws.every_order_is_finite.Goals as goal

pub returns-clause-lowers : goal.returns-clause-lowers
returns-clause-lowers c = λ keys a before after. falls keys next_of (λ (u : State). most_steps_left u.local) state_lowers before after a

pub returns-clause-most : goal.returns-clause-most
returns-clause-most c = λ keys. most_steps keys next_of (λ (u : State). most_steps_left u.local) state_lowers
