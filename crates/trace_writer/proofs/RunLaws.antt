-- Legal runs, and their text, with one event more.
use Rattle.std.proofs.Common.{◌≡◌, ℕ, ◌<◌, List, [], ◌∷◌, ◌++◌, append-nil, append_assoc, map, refl, sym, ◌∙◌, ap}
use Rattle.std.proofs.lemmas.List.{map-append}
use Rattle.rcce_io.specs.Sending.{joined_texts}
use Rattle.scc_base.specs.Events.{IsEvent}
use Rattle.scc_base.specs.Setups.{SetupView}
use Rattle.scc_proto.specs.Records.{IsPermitted}
use Rattle.scc_proto.specs.Stages.{blank}
use Rattle.scc_proto.specs.Words.{IsStep, RankEvent, zeros}
use Rattle.scc_proto.proofs.Messages.ChunkRecords.{run-append}
use Rattle.chip_memory.proofs.ListLaws.{permitted_more}
use Rattle.trace_judge.specs.Judged.{judged_by}
use Rattle.trace_writer.specs.Desks.{IsLegalRun}
use Rattle.trace_writer.specs.Lines.{event_line, first_lines, trace_text}

-- ---- runs

-- a legal run with one event more, which is a step and permitted
pub legal_more : (s : SetupView) (run : List RankEvent) (e : RankEvent) → IsLegalRun s run → e.rank < s.nue → IsEvent e.event
    → IsStep (judged_by s run).memory e.event × IsPermitted s e.rank ((judged_by s run).records e.rank) e.event → IsLegalRun s (run ++ e ∷ [])
legal_more s run e legal below event (step, may) = record {
  steps = run-append zeros run (e ∷ []) legal.steps (step, tt);
  permitted = permitted_more s (λ r. blank) run e legal.permitted below event may;
}

pub legal_none : (s : SetupView) → IsLegalRun s []
legal_none s = record { steps = tt; permitted = tt }

-- ---- texts

joined_both : (a b : List (List ℕ)) → joined_texts (a ++ b) ≡ joined_texts a ++ joined_texts b
joined_both [] b = refl
joined_both (x ∷ a) b = ap (λ (t : List ℕ). x ++ t) (joined_both a b) ∙ sym (append_assoc x (joined_texts a) (joined_texts b))

-- the text of a trace with one event more
pub text_more : (s : SetupView) (run : List RankEvent) (e : RankEvent) → trace_text s (run ++ e ∷ []) ≡ trace_text s run ++ event_line s e
text_more s run e =
    ap (λ (t : List ℕ). first_lines s ++ t)
    (ap joined_texts (map-append (event_line s) run (e ∷ [])) ∙ joined_both (map (event_line s) run) (event_line s e ∷ [])
    ∙ ap (λ (t : List ℕ). joined_texts (map (event_line s) run) ++ t) (append-nil (event_line s e)))
    ∙ sym (append_assoc (first_lines s) (joined_texts (map (event_line s) run)) (event_line s e))

pub text_none : (s : SetupView) → trace_text s [] ≡ first_lines s
text_none s = append-nil (first_lines s)
