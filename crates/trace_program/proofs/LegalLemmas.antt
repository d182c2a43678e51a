-- A trace that is called legal is one.
use Rattle.std.proofs.Common.{◌≡◌, inl, inr, ℕ, Bool, true, false, List, [], codes, length, map, Option, Some, None, Result, Ok, Err, refl, sym, subst, ◌∙◌, ap}
use Rattle.std.specs.List.{range_with_len}
use Rattle.std.specs.Prelude.{IsOk, nat_lt}
use Rattle.std.proofs.lemmas.Bool.{ltb-false}
use Rattle.outcomes.specs.Coming.{ByTest, Comes, FileHolds, IsMeant, LeadsOn}
use Rattle.outcomes.specs.Delivery.{Delivers, Sinks, with_outcome}
use Rattle.outcomes.specs.Outcomes.{Outcome, run_outcome, too_long}
use Rattle.outcomes.specs.declared.status.Status.{Status}
use Rattle.outcomes.specs.declared.status.Status.TheVariants as status
use Rattle.outcomes.proofs.ReadingLemmas.{holds_short}
use Rattle.rcce_io.specs.Files.{FilesView}
use Rattle.rcce_io.specs.Reading.{ReadsAll}
use Rattle.rcce_io.specs.declared.reading.ReadEnd.{ReadEnd}
use Rattle.rcce_io.specs.declared.reading.ReadEnd.TheVariants as ends
use Rattle.rcce_words.specs.ScriptWords.{plan_of}
use Rattle.scc_proto.specs.Histories.{records_of}
use Rattle.scc_base.specs.Calls.{DataCall}
use Rattle.scc_proto.specs.Stages.{Record, blank}
use Rattle.scc_proto.specs.Words.{zeros}
use Rattle.scc_proto.proofs.Agreement.AgreementLaw.{agreement_of_lists}
use Rattle.scc_proto.proofs.Agreement.ListLaw.{records_from_start}
use Rattle.scc_proto.proofs.Messages.MessageLaw.{pair_messages}
use Rattle.trace_judge.specs.Judged.{Judged, new_judged}
use Rattle.trace_judge.specs.Rulings.{RefusedAt, ruling_from}
use Rattle.trace_judge.proofs.LegalLists.{chip_told, legal_told}
use Rattle.trace_text.specs.Grammar.{trace_of}
use Rattle.trace_text.specs.Traces.{TraceView, most_trace_bytes}
use Rattle.trace_text.specs.declared.faults.TraceFault.{TraceFault}
use Rattle.trace_text.proofs.SaidLemmas.{trace_said}
use Rattle.trace_program.specs.Legal.{IsLegalTrace, NamesLegal, finished_calls_of, legal_ran}
use Rattle.trace_program.specs.Lists.{finished_calls}
use Rattle.trace_program.specs.Program.{TraceCommand, ruling_ran, said_plan, trace_command, trace_file_plan, trace_plan, trace_ran}
use Rattle.trace_program.specs.Texts.{legal_text}

-- a trace that is taken as a whole
legal_trace : (text : List ℕ) (trace : TraceView) → trace_of text ≡ Ok trace → IsOk (ruling_from 0 (new_judged trace.setup) trace.events) → IsLegalTrace trace
legal_trace text trace said ok =
    let s = trace.setup in
    let is = trace_said text trace said in
    let legal = legal_told 0 s zeros (λ r. blank) trace.events is.made ok in
    let agrees = agreement_of_lists s is.setup trace.events legal.0 legal.1 in
    record {
      run = legal.0;
      permitted = legal.1;
      agrees = agrees;
      messages = λ from to below. pair_messages s from to (records_of s trace.events) agrees.calls (agrees.singles.0 from below);
    }

abbrev name : List ℕ
name = codes "rccetrace"

finished_ok : (asked : Bool) (trace : TraceView) (ruling : Result Judged RefusedAt) → (run_outcome (ruling_ran asked trace ruling)).status ≡ status.Finished → IsOk ruling
finished_ok asked trace (Ok j) is = refl
finished_ok asked trace (Err at) is = absurd (cc)

-- the calls that the judge has seen finished are those of the records
judged_calls : (trace : TraceView) (j : Judged) → ruling_from 0 (new_judged trace.setup) trace.events ≡ Ok j → finished_calls j ≡ finished_calls_of trace
unfolding finished_calls
judged_calls trace j is =
    let records : j.records ≡ records_of trace.setup trace.events =
    ap (λ (x : Judged). x.records) (chip_told 0 trace.setup zeros (λ r. blank) trace.events j is) ∙ records_from_start trace.setup trace.events in
    ap (λ (all : ℕ → Record). map (λ r. (all r).calls) (range_with_len 0 48)) records

-- so these are printed
ran_legal : (asked : Bool) (trace : TraceView) → IsOk (ruling_from 0 (new_judged trace.setup) trace.events) → trace_ran asked trace ≡ legal_ran asked trace
ran_legal asked trace ok = by (ruling_from 0 (new_judged trace.setup) trace.events) refl ok
  where
    by : (ruling : Result Judged RefusedAt) → ruling_from 0 (new_judged trace.setup) trace.events ≡ ruling → IsOk ruling → trace_ran asked trace ≡ legal_ran asked trace
    by (Ok j) is fine =
        ap (ruling_ran asked trace) is
        ∙ ap (λ (calls : List (List DataCall)). record { finished = true; out = legal_text trace.setup.nue asked calls; err = [] }) (judged_calls trace j is)
    by (Err at) is fine = absurd (cc)

-- what the text of a plan that finishes says
record SaysLegal (command : TraceCommand) (said : Result TraceView TraceFault) (before after : FilesView) (o : Outcome) : Type 0 where
  pub trace : TraceView
  pub same : said ≡ Ok trace
  pub ok : IsOk (ruling_from 0 (new_judged trace.setup) trace.events)
  pub stays : after ≡ before
  pub shown : o ≡ run_outcome (legal_ran command.asked trace)

said_legal : (command : TraceCommand) (said : Result TraceView TraceFault) (before after : FilesView) (o : Outcome) → Comes name (said_plan command said) before after o → o.status ≡ status.Finished → SaysLegal command said before after o
said_legal command (Ok trace) before after o (stays, inl is) finished =
    let ok = finished_ok command.asked trace (ruling_from 0 (new_judged trace.setup) trace.events) (ap (λ (x : Outcome). x.status) (sym is) ∙ finished) in
    record {
      trace = trace;
      same = refl;
      ok = ok;
      stays = stays;
      shown = is ∙ ap run_outcome (ran_legal command.asked trace ok);
    }
said_legal command (Ok trace) before after o (stays, inr is) finished = let e : status.Memory ≡ status.Finished = ap (λ (x : Outcome). x.status) (sym is) ∙ finished in absurd (cc)
said_legal command (Err fault) before after o (stays, inl is) finished = let e : status.Script ≡ status.Finished = ap (λ (x : Outcome). x.status) (sym is) ∙ finished in absurd (cc)
said_legal command (Err fault) before after o (stays, inr is) finished = let e : status.Memory ≡ status.Finished = ap (λ (x : Outcome). x.status) (sym is) ∙ finished in absurd (cc)

-- a file that was read
record FileLegal (command : TraceCommand) (before after : FilesView) (o : Outcome) : Type 0 where
  pub text : List ℕ
  pub read : ReadsAll command.file most_trace_bytes before after (Ok text)
  pub holds : FileHolds before.told command.file text
  pub says : SaysLegal command (trace_of text) after after o

read_legal : (command : TraceCommand) (before between after : FilesView) (o : Outcome) (answer : Result (List ℕ) ReadEnd) → ReadsAll command.file most_trace_bytes before between answer
    → LeadsOn name command.file most_trace_bytes (λ bytes. Comes name (trace_plan command bytes) between after o) between after o answer → o.status ≡ status.Finished → FileLegal command before after o
read_legal command before between after o (Ok bytes) reads leads finished = by (nat_lt most_trace_bytes (length bytes)) refl leads
  where
    by : (long : Bool) → nat_lt most_trace_bytes (length bytes) ≡ long → ByTest long ((after ≡ between) × (o ≡ too_long name command.file)) (Comes name (trace_plan command bytes) between after o) → FileLegal command before after o
    by true is on = let e : status.Script ≡ status.Finished = ap (λ (x : Outcome). x.status) (sym on.1) ∙ finished in absurd (cc)
    by false is on =
        let says = said_legal command (trace_of bytes) between after o on finished in
        record {
          text = bytes;
          read = subst (λ (now : FilesView). ReadsAll command.file most_trace_bytes before now (Ok bytes)) (sym says.stays) reads;
          holds = holds_short before.told command.file most_trace_bytes bytes (ltb-false most_trace_bytes (length bytes) is) reads.2;
          says = record { trace = says.trace; same = says.same; ok = says.ok; stays = refl; shown = says.shown };
        }
read_legal command before between after o (Err ends.Absent) reads leads finished = let e : status.Files ≡ status.Finished = ap (λ (x : Outcome). x.status) (sym leads.1) ∙ finished in absurd (cc)
read_legal command before between after o (Err ends.Failed) reads leads finished = let e : status.Files ≡ status.Finished = ap (λ (x : Outcome). x.status) (sym leads.1) ∙ finished in absurd (cc)
read_legal command before between after o (Err ends.Memory) reads leads finished = let e : status.Memory ≡ status.Finished = ap (λ (x : Outcome). x.status) (sym leads.1) ∙ finished in absurd (cc)

meant_legal : (words : List (List ℕ)) (command : Option TraceCommand) (files after : FilesView) (o : Outcome) (before later : Sinks) → trace_command words ≡ command → IsMeant name (plan_of trace_file_plan command) files after o
    → o.status ≡ status.Finished → later ≡ with_outcome o before → NamesLegal words files after before later
meant_legal words None files after o before later is meant finished took = let e : status.Words ≡ status.Finished = ap (λ (x : Outcome). x.status) (sym meant.1) ∙ finished in absurd (cc)
meant_legal words (Some command) files after o before later is meant finished took =
    let file = read_legal command files meant.0 after o meant.1 meant.2 meant.3 finished in
    record {
      command = command;
      asked = is;
      text = file.text;
      read = file.read;
      holds = file.holds;
      trace = file.says.trace;
      said = file.says.same;
      legal = legal_trace file.text file.says.trace file.says.same file.says.ok;
      printed = record { same_status = refl; texts = took ∙ ap (λ (x : Outcome). with_outcome x before) file.says.shown };
    }

-- a call that ends with the status of a finished run
pub finished_legal : (words : List (List ℕ)) (files after : FilesView) (o : Outcome) (before later : Sinks) (s : Status) → IsMeant name (plan_of trace_file_plan (trace_command words)) files after o → Delivers o before later s
    → s ≡ status.Finished → NamesLegal words files after before later
finished_legal words files after o before later s meant (inl sent) finished = meant_legal words (trace_command words) files after o before later refl meant (sym sent.0 ∙ finished) sent.1
finished_legal words files after o before later s meant (inr cut) finished = let e : status.Write ≡ status.Finished = sym cut.0 ∙ finished in absurd (cc)
