-- Files and sinks in memory that no call of which fails.
use Rattle.std.proofs.Common.{◌≡◌, ℕ, suc, ◌==◌, min, Bool, false, if◌then◌else◌, List, length, take, Some, refl, sym, ◌∙◌, ap, subst, arith}
use Rattle.std.proofs.lemmas.Bool.Decides.{nat_tests}
use Rattle.std.proofs.lemmas.List.{take_all}
use Rattle.rcce_io.specs.Faults.{IsSteady, next_count}
use Rattle.rcce_io.specs.Files.{NamedFile}
use Rattle.rcce_io.specs.Memory.{FilesState, SinkState, no_files_state, new_sink, after_open, after_read, after_write, files_seen, sink_seen}
use Rattle.rcce_io.specs.Sending.{SinkView, with_text}
use Rattle.outcomes.specs.Delivery.{AreSteady, Shows, sinks}
use Rattle.outcomes.specs.Outcomes.{Outcome}

no_faults : IsSteady 0 0
no_faults = record { same = omega arith; below_most = omega arith }

-- files in memory, which are these
abbrev pub files_for : List NamedFile → FilesState
files_for told = record no_files_state { files = told }

pub files_stay : (told : List NamedFile) (file : List ℕ) (len : ℕ) → IsSteady (files_seen (files_for told)).faults (files_seen (after_read (after_open (files_for told) file) len)).faults
files_stay told file len = no_faults

-- a sink with room for a text, and the same after it took it
abbrev pub sink_for : List ℕ → SinkState
sink_for text = new_sink (suc (length text)) (suc (length text))

abbrev pub sink_with : List ℕ → SinkState
sink_with text = after_write (sink_for text) text

not_zero : (n : ℕ) → (suc n == 0) ≡ false
not_zero n = grind (arith, nat_tests)

-- the sink after it, where the write failed or did not
abbrev seen_by : List ℕ → Bool → SinkView
seen_by text failed = record {
  taken = Some (take (if failed then 0 else min (min (length text) (suc (length text))) (suc (length text))) text);
  faults = if failed then next_count 0 else 0;
}

takes_whole : (text : List ℕ) → sink_seen (sink_with text) ≡ with_text text (sink_seen (sink_for text))
takes_whole text =
    ap (seen_by text) (not_zero (length text))
    ∙ ap (λ (taken : List ℕ). record { taken = Some taken; faults = 0 }) (take_all (min (min (length text) (suc (length text))) (suc (length text))) text (omega arith))

stays : (text : List ℕ) → IsSteady (sink_seen (sink_for text)).faults (sink_seen (sink_with text)).faults
stays text = subst (λ (view : SinkView). IsSteady 0 view.faults) (sym (takes_whole text)) no_faults

pub sinks_stay : (o : Outcome) → AreSteady (sinks (sink_seen (sink_for o.out)) (sink_seen (sink_for o.err))) (sinks (sink_seen (sink_with o.out)) (sink_seen (sink_with o.err)))
sinks_stay o = record { out = stays o.out; err = stays o.err }

pub sinks_show : (o : Outcome) → Shows o (sinks (sink_seen (sink_for o.out)) (sink_seen (sink_for o.err))) (sinks (sink_seen (sink_with o.out)) (sink_seen (sink_with o.err))) o.status
sinks_show o = record { same_status = refl; texts = λ i. record { out = takes_whole o.out i; err = takes_whole o.err i } }
