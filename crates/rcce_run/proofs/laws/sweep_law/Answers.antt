use Rattle.plain_meaning.specs.Meaning.{next_of}
use Rattle.plain_meaning.specs.Collectives.{start_of_rank}
use Rattle.rcce_run.proofs.OpenCalls.{none_drafts, open_is_next}
use Rattle.rcce_run.proofs.ScriptSweep.{script_calls, script_empty, script_ends, script_slots, script_still, script_waits}
use Rattle.rcce_run.proofs.laws.sweep_law.Goals as goal

pub returns-clause-ends : goal.returns-clause-ends
returns-clause-ends c = λ script s memory records states lasts sw. script_ends script s memory records states lasts sw

pub returns-clause-still : goal.returns-clause-still
returns-clause-still c = λ script s memory records states lasts sw. script_still script s memory records states lasts sw

pub returns-clause-slots : goal.returns-clause-slots
returns-clause-slots c = λ script s memory records states lasts sw. script_slots script s memory records states lasts sw

pub returns-clause-waiting : goal.returns-clause-waiting
returns-clause-waiting c = λ script s memory records states lasts sw. script_waits script s memory records states lasts sw

pub returns-clause-empty : goal.returns-clause-empty
returns-clause-empty c = λ script s memory records states lasts sw. script_empty script s memory records states lasts sw

pub returns-clause-calls : goal.returns-clause-calls
returns-clause-calls c = λ script s memory records states lasts sw. script_calls script s memory records states lasts sw

pub returns-clause-opened : goal.returns-clause-opened
returns-clause-opened c = λ script s memory records states lasts sw. open_is_next next_of s memory records (start_of_rank script) states lasts sw.swept

pub returns-clause-no_draft : goal.returns-clause-no_draft
returns-clause-no_draft c = λ script s memory records states lasts sw. none_drafts next_of s memory records (start_of_rank script) states lasts sw.swept
