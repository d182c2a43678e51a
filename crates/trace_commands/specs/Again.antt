-- What `rccetrace` says of the trace that it printed of a run, where it is given to it again (this project's profile).
use Rattle.std.specs.Prelude.{◌≡◌, ◌≢◌, ◌≤◌, ℕ, Bool, true, List, [], map, Some}
use Rattle.std.specs.List.{range_with_len}
use Rattle.outcomes.specs.Outcomes.{Ran, run_outcome}
use Rattle.outcomes.specs.Plans.{expected_outcome}
use Rattle.outcomes.specs.declared.status.Status.TheVariants as status
use Rattle.rcce_io.specs.Files.{NamedFile, contents_of}
use Rattle.rcce_io.specs.Sending.{SinkView}
use Rattle.scc_base.specs.Calls.{DataCall}
use Rattle.scc_mesh.specs.Scenes.{ChipView, about_in, records_in}
use Rattle.trace_laws.specs.Told.{text_lines}
use Rattle.trace_program.specs.Program.{TraceCommand, rccetrace, trace_command}
use Rattle.trace_program.specs.Texts.{legal_text}
use Rattle.trace_script.specs.declared.endings.TraceEnd.{TraceEnd}
use Rattle.trace_script.specs.declared.endings.TraceEnd.TheVariants as end
use Rattle.trace_text.specs.Traces.{most_trace_lines}

-- the calls that the ranks 0 to 47 have finished, by the chip's records
abbrev pub calls_on_chip : ChipView → List (List DataCall)
calls_on_chip chip = map (λ r. (records_in chip r).calls) (range_with_len 0 48)

-- legal, with the calls that the chip's ranks have finished
abbrev pub chip_ran : Bool → ChipView → Ran
chip_ran asked chip = record { finished = true; out = legal_text (about_in chip).nue asked (calls_on_chip chip); err = [] }

-- words that name a file with this text are to end so: the trace in it is legal, and its calls are those of the chip
abbrev pub TellsOfChip : ChipView → List ℕ → Type 0
TellsOfChip chip text = (words : List (List ℕ)) (command : TraceCommand) (told : List NamedFile) → trace_command words ≡ Some command
    → contents_of command.file told ≡ Some text → expected_outcome rccetrace words told ≡ run_outcome (chip_ran command.asked chip)

-- a sink that had taken nothing has taken this text, which has no more lines than a trace may have
pub record HasPrinted (before after : SinkView) (text : List ℕ) : Type 0 where
  pub empty : before.taken ≡ Some []
  pub printed : after.taken ≡ Some text
  pub few : text_lines text ≤ most_trace_lines

-- no write failed, and no event was refused
abbrev pub WroteAll : TraceEnd → Type 0
WroteAll (end.Ended s) = s ≢ status.Write
WroteAll end.Refused = ⊥
