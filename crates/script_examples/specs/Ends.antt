-- Whole scripts with the ends of their ranks.
use Rattle.std.specs.Prelude.{ℕ, ℤ, List, [], None, Some, Result, Ok}
use Rattle.scc_base.specs.Heads.{MessageHead}
use Rattle.scc_base.specs.declared.calls.Call.{Call}
use Rattle.groups.specs.declared.operations.Ty.{Ty}
use Rattle.groups.specs.Folds.{bytes_of_value}
use Rattle.script_reader.specs.declared.fault.ReadFault.{ReadFault}
use Rattle.script_rules.specs.declared.script.Form.TheVariants as form
use Rattle.script_reader.specs.Faults.{◌>>=◌}
use Rattle.script_reader.specs.Reading.{parse_script}
use Rattle.script_machine.specs.declared.ends.UeEnd.TheVariants as ue_end
use Rattle.plain_meaning.specs.Ends.{Ended}
use Rattle.plain_meaning.specs.Meaning.{plain_ends}
use Rattle.script_machine.specs.Printed.{Printed}

-- the results of a script's ranks at the end of its run, or the first fault of the script
abbrev pub ends_of_text : List ℕ → ℕ → Result (List Ended) ReadFault
ends_of_text text nue = parse_script text nue >>= λ script. Ok (plain_ends script)

-- a register that was printed as bytes
abbrev pub shows : ℕ → List ℕ → Printed
shows reg bytes = record { reg = reg; form = form.Hex; bytes = bytes }

-- a register that was printed as one value of a type
abbrev pub shows_value : Ty → ℕ → ℤ → Printed
shows_value ty reg value = record { reg = reg; form = form.Decimal ty; bytes = bytes_of_value ty value }

-- a rank that did all its statements, and printed these registers
abbrev pub finishes : List Printed → Ended
finishes printed = record { end = ue_end.Finished; printed = printed; in_flight = None }

-- a rank that waits in the call of a line, and printed these registers before
abbrev pub waits : ℕ → Call → List Printed → Ended
waits line call printed = record { end = ue_end.Waits line call; printed = printed; in_flight = None }

-- a rank that printed nothing and was stopped at the receive of a line: by the sender's rank, the head of its message, and
-- the head that the receive asks for
abbrev pub stops : ℕ → ℕ → MessageHead → MessageHead → Ended
stops line from sent asked = record { end = ue_end.Mismatch line from sent asked; printed = []; in_flight = None }

-- a rank whose posted message to another was not taken
abbrev pub posted_to : ℕ → Ended → Ended
posted_to to end = record end { in_flight = Some to }
