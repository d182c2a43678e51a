-- The trace that was printed of a run is legal where it is read again.
use Rattle.std.proofs.Common.{◌≡◌, ◌≢◌, ℕ, ◌+◌, ◌<◌, ◌≤◌, Bool, true, false, cond, List, [], ◌∷◌, ◌++◌, inl, inr, length, map, codes, Option, Some, None, Result, Ok, Err, refl, sym, ap, subst, ◌∙◌, arith}
use Rattle.std.specs.Prelude.{◌==◌, All, nat_lt, option_map}
use Rattle.std.specs.List.{range_with_len}
use Rattle.std.proofs.lemmas.List.Elements.{All-nil, All-cons}
use Rattle.outcomes.specs.Delivery.{Delivers, Sinks, with_outcome}
use Rattle.outcomes.specs.Outcomes.{Outcome, Ran, run_outcome, too_long}
use Rattle.outcomes.specs.Plans.{contents_outcome, expected_outcome, plan_outcome, words_outcome}
use Rattle.outcomes.specs.declared.status.Status.{Status}
use Rattle.outcomes.specs.declared.status.Status.TheVariants as status
use Rattle.texts.specs.Cuts.{lines_of}
use Rattle.rcce_io.specs.Files.{FilesView, NamedFile, contents_of}
use Rattle.rcce_io.specs.Sending.{SinkView, with_text}
use Rattle.rcce_words.specs.CommandLine.{parse_command}
use Rattle.rcce_words.specs.ScriptWords.{plan_of}
use Rattle.run_program.specs.Asking.{WordsAskFor}
use Rattle.run_program.specs.History.{Asked}
use Rattle.scc_base.specs.Events.{IsEvent}
use Rattle.scc_base.specs.Setups.{IsSetup, SetupView}
use Rattle.scc_base.specs.declared.events.Event.{Event}
use Rattle.scc_mesh.specs.Scenes.{ChipView, IsOpen, about_in, events_in, records_in}
use Rattle.scc_proto.specs.Histories.{IsPermittedRun, events_of, records_from}
use Rattle.scc_proto.specs.Records.{record_after, record_of}
use Rattle.scc_proto.specs.Stages.{Record, blank}
use Rattle.scc_proto.specs.Tables.{table_with}
use Rattle.scc_proto.specs.Words.{RankEvent}
use Rattle.scc_proto.proofs.Agreement.ListLaw.{records_from_start}
use Rattle.trace_judge.specs.Judged.{Judged, judged_by, new_judged}
use Rattle.trace_judge.specs.Rulings.{AreRankEvents, RefusedAt, ruling_from}
use Rattle.trace_laws.specs.Told.{IsWritable, text_lines, told_setup}
use Rattle.trace_laws.proofs.InverseLemmas.{read_back}
use Rattle.trace_laws.proofs.JudgedLemmas.{judged_again, records_again}
use Rattle.trace_program.specs.Lists.{finished_calls}
use Rattle.trace_program.specs.Program.{TraceCommand, rccetrace, ruling_ran, said_plan, trace_command, trace_file_plan, trace_plan, trace_ran}
use Rattle.trace_program.specs.Texts.{legal_text}
use Rattle.trace_text.specs.Grammar.{parts_taken, trace_of}
use Rattle.trace_text.specs.Traces.{TraceView, most_trace_bytes, most_trace_lines}
use Rattle.trace_text.specs.declared.faults.TraceFault.{TraceFault}
use Rattle.trace_text.specs.declared.faults.TraceKind.TheVariants as kind
use Rattle.trace_script.specs.Tracing.{AreChipEvents, HasComplained, HasTraced, TracesRun, TracesWords, WasTraced, traced_ran}
use Rattle.trace_script.specs.declared.endings.TraceEnd.{TraceEnd}
use Rattle.trace_script.specs.declared.endings.TraceEnd.TheVariants as end
use Rattle.trace_writer.specs.Desks.{IsLegalRun}
use Rattle.trace_writer.specs.Lines.{trace_text}
use Rattle.trace_commands.specs.Again.{HasPrinted, TellsOfChip, WroteAll, calls_on_chip, chip_ran}
use Rattle.trace_commands.proofs.AskedLemmas.{asked_writable}

-- the events of a permitted run are ones that its ranks may make
are_made : (s : SetupView) (records : ℕ → Record) (run : List RankEvent) → IsPermittedRun s records run → AreRankEvents s run
are_made s records [] may = All-nil (λ (e : RankEvent). (e.rank < s.nue) × IsEvent e.event)
are_made s records (e ∷ run) (below, made, permitted, rest) =
    All-cons (λ (x : RankEvent). (x.rank < s.nue) × IsEvent x.event) e run (below, made) (are_made s (table_with records e.rank (record_after s e.rank (records e.rank) e.event)) run rest)

-- a text that says a trace is not too long
fits : (text : List ℕ) (trace : TraceView) → trace_of text ≡ Ok trace → nat_lt most_trace_bytes (length text) ≡ false
fits text trace said = by (nat_lt most_trace_bytes (length text)) refl said
  where
    by : (long : Bool) → nat_lt most_trace_bytes (length text) ≡ long → cond long (Err (record { line = 0; kind = kind.TooLong })) (parts_taken (lines_of text)) ≡ Ok trace → nat_lt most_trace_bytes (length text) ≡ false
    by true is same = absurd (cc)
    by false is same = is

-- what is expected of words that name a file with a trace
read_again : (words : List (List ℕ)) (command : TraceCommand) (told : List NamedFile) (text : List ℕ) (trace : TraceView) (j : Judged) → trace_command words ≡ Some command → contents_of command.file told ≡ Some text
    → trace_of text ≡ Ok trace → ruling_from 0 (new_judged trace.setup) trace.events ≡ Ok j
    → expected_outcome rccetrace words told ≡ run_outcome (record { finished = true; out = legal_text trace.setup.nue command.asked (finished_calls j); err = [] })
read_again words command told text trace j asked holds said ruled =
    let name = codes "rccetrace" in
    ap (λ (o : Option TraceCommand). words_outcome name (plan_of trace_file_plan o) told) asked
    ∙ ap (contents_outcome name command.file most_trace_bytes (λ bytes. plan_outcome name (trace_plan command bytes) told)) holds
    ∙ ap (λ (long : Bool). cond long (too_long name command.file) (plan_outcome name (trace_plan command text) told)) (fits text trace said)
    ∙ ap (λ (r : Result TraceView TraceFault). plan_outcome name (said_plan command r) told) said
    ∙ ap (λ (r : Result Judged RefusedAt). run_outcome (ruling_ran command.asked trace r)) ruled

-- the records of a chip whose events these are
records_are : (asked : Asked) (chip : ChipView) (run : List RankEvent) (r : ℕ) → AreChipEvents asked chip run → (judged_by (told_setup asked.setup) run).records r ≡ records_in chip r
records_are asked chip run r events =
    ap (λ (records : ℕ → Record). records r) (records_again asked.setup run ∙ records_from_start asked.setup run)
    ∙ ap (record_of asked.setup r) (events.each r)
    ∙ ap (λ (s : SetupView). record_of s r (events_in chip r)) (sym events.stands.setup)

calls_are : (asked : Asked) (chip : ChipView) (run : List RankEvent) → AreChipEvents asked chip run → finished_calls (judged_by (told_setup asked.setup) run) ≡ calls_on_chip chip
unfolding finished_calls
calls_are asked chip run events = λ i. map (λ r. (records_are asked chip run r events i).calls) (range_with_len 0 48)

tells : (asked : Asked) (chip : ChipView) (run : List RankEvent) → AreChipEvents asked chip run → IsLegalRun asked.setup run → IsWritable asked.setup → text_lines (trace_text asked.setup run) ≤ most_trace_lines
    → TellsOfChip chip (trace_text asked.setup run)
tells asked chip run events legal writable few words command told is holds =
    let s = asked.setup in
    let trace : TraceView = record { setup = told_setup s; events = run } in
    let said = read_back s run writable (are_made s (λ r. blank) run legal.permitted) few in
    read_again words command told (trace_text s run) trace (judged_by (told_setup s) run) is holds said (judged_again s run legal)
    ∙ (λ i. run_outcome (record {
      finished = true;
      out = legal_text ((sym events.stands.setup) i).nue command.asked (calls_are asked chip run events i);
      err = [];
    }))

-- the text that was printed is the trace
same_text : (one other : List ℕ) → Some one ≡ Some other → one ≡ other
same_text one other is = cc

printed_is : (before after : SinkView) (text trace : List ℕ) → HasPrinted before after text → after ≡ with_text trace before → trace ≡ text
printed_is before after text trace has took =
    let taken : Some trace ≡ Some text =
    ap (λ (o : Option (List ℕ)). option_map (λ (bytes : List ℕ). bytes ++ trace) o) (sym has.empty) ∙ ap (λ (sink : SinkView). sink.taken) (sym took) ∙ has.printed in
    same_text trace text taken

was_traced : (words : List (List ℕ)) (files : FilesView) (asked : Asked) (chip : ChipView) (before after : Sinks) (s : Status) (text : List ℕ) → WordsAskFor words (parse_command words) files.told asked
    → IsSetup (about_in chip) → s ≢ status.Write → HasPrinted before.out after.out text → WasTraced asked chip before after s → TellsOfChip chip text
was_traced words files asked chip before after s text asks valid no_fault has was = by was.delivers
  where
    writable : IsWritable asked.setup
    writable = asked_writable words (parse_command words) files.told asked asks (subst IsSetup was.events.stands.setup valid)

    by : Delivers (run_outcome (traced_ran asked was.run)) before after s → TellsOfChip chip text
    by (inl (status_is, took)) =
        let same = printed_is before.out after.out text (trace_text asked.setup was.run) has (ap (λ (x : Sinks). x.out) took) in
        subst (TellsOfChip chip) same (tells asked chip was.run was.events was.legal writable (subst (λ (t : List ℕ). text_lines t ≤ most_trace_lines) (sym same) has.few))
    by (inr (status_is, stops)) = absurd (no_fault status_is)

tells_again : (words : List (List ℕ)) (files files_after : FilesView) (chip : ChipView) (before after : Sinks) (s : Status) (text : List ℕ) → TracesWords words files files_after chip before after (end.Ended s)
    → IsOpen chip → (IsOpen chip → IsSetup (about_in chip)) → s ≢ status.Write → HasPrinted before.out after.out text → TellsOfChip chip text
tells_again words files files_after chip before after s text (inl complained) opened valid no_fault has = absurd (open_blank chip opened complained.blank)
  where
    open_blank : (c : ChipView) → IsOpen c → c ≡ None → ⊥
    open_blank c is none = let no : IsOpen None = subst IsOpen none is in absurd (cc)
tells_again words files files_after chip before after s text (inr traced) opened valid no_fault has = by traced.traced
  where
    by : TracesRun traced.asked chip before after (end.Ended s) → TellsOfChip chip text
    by (inl was) = was_traced words files traced.asked chip before after s text traced.asks (valid opened) no_fault has was
    by (inr (is, cut)) = absurd (no_fault is)

pub tells_by : (words : List (List ℕ)) (files files_after : FilesView) (chip : ChipView) (before after : Sinks) (answer : TraceEnd) (text : List ℕ) → TracesWords words files files_after chip before after answer
    → IsOpen chip → (IsOpen chip → IsSetup (about_in chip)) → WroteAll answer → HasPrinted before.out after.out text → TellsOfChip chip text
tells_by words files files_after chip before after (end.Ended s) text traces opened valid wrote has = tells_again words files files_after chip before after s text traces opened valid wrote has
tells_by words files files_after chip before after end.Refused text traces opened valid wrote has = absurd wrote
