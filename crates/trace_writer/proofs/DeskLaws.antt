-- What a desk has written, with one event more, and at the end.
use Rattle.std.proofs.Common.{◌≡◌, ℕ, ◌<◌, List, [], ◌∷◌, ◌++◌, append-nil, append_assoc, Option, Some, None, is_none, true, Result, Ok, Err, refl, sym, ◌∙◌, ap, subst}
use Rattle.std.proofs.lemmas.Bool.{false≢true}
use Rattle.rcce_io.specs.Sending.{CutShort, SinkView, RestWaits, with_text}
use Rattle.rcce_io.proofs.SendingLemmas.{cut_after, cut_waiting, text_after, waits_after}
use Rattle.scc_base.specs.Events.{IsEvent}
use Rattle.scc_base.specs.Setups.{SetupView}
use Rattle.scc_proto.specs.Records.{IsPermitted}
use Rattle.scc_proto.specs.Words.{IsStep, RankEvent}
use Rattle.trace_judge.specs.declared.judge.Refusal.{Refusal}
use Rattle.trace_judge.specs.Judged.{JudgeView, chip_of, judged_by}
use Rattle.trace_judge.specs.Rulings.{refusal_of}
use Rattle.trace_writer.specs.declared.desks.TraceFault.{TraceFault}
use Rattle.trace_writer.specs.declared.desks.TraceFault.TheVariants as fault
use Rattle.trace_writer.specs.Desks.{HasGathered, HasLegalFront, SendsWaiting, HasWritten, IsFrontOf, IsLegalRun, IsWriting, TraceSent, WasCutShort, WasRefused}
use Rattle.trace_writer.specs.Lines.{event_line, first_lines, trace_text}
use Rattle.trace_writer.proofs.RunLaws.{legal_more, legal_none, text_more, text_none}

-- ---- the first lines

module _ (s : SetupView) (judge : JudgeView) (before now : SinkView) (same : s ≡ judge.setup) where
  began : (waiting : List ℕ) → judge.run ≡ [] → RestWaits ([] ++ first_lines s) waiting before now → IsWriting before judge waiting now []
  began waiting new waits = record {
    judged = new;
    legal = legal_none judge.setup;
    waits = subst (λ (t : List ℕ). RestWaits t waiting before now) (ap first_lines same ∙ sym (text_none judge.setup)) waits;
  }

  began_short : judge.run ≡ [] → CutShort ([] ++ first_lines s) before now → WasCutShort judge.setup before now judge.run []
  began_short new cut =
      subst (λ (w : List RankEvent). WasCutShort judge.setup before now w []) (sym new) (record {
        front = record { rest = []; parts = refl; legal = legal_none judge.setup };
        cut = subst (λ (t : List ℕ). CutShort t before now) (ap first_lines same ∙ sym (text_none judge.setup)) cut;
      })

  -- however the sink took them
  pub began_by : (waited waiting : List ℕ) (answer : Option TraceFault) → judge.run ≡ [] → waited ≡ []
      → HasGathered (first_lines s) waited waiting before now answer → HasWritten before judge waiting now answer []
  began_by waited waiting None new none waits = began waiting new (subst (λ (w : List ℕ). RestWaits (w ++ first_lines s) waiting before now) none waits)
  began_by waited waiting (Some fault.Write) new none cut = began_short new (subst (λ (w : List ℕ). CutShort (w ++ first_lines s) before now) none cut)
  began_by waited waiting (Some (fault.Refused rank why)) new none has = absurd has

-- ---- one event more

module _ (before mid after : SinkView) (old new : JudgeView) (waited waiting : List ℕ) (run : List RankEvent) (e : RankEvent) (writing : IsWriting before old waited mid run) where
  abbrev s : SetupView
  s = old.setup

  -- what the judge said of the chip it says of the run
  legal : e.rank < s.nue → IsEvent e.event → IsStep (chip_of old).memory e.event × IsPermitted s e.rank ((chip_of old).records e.rank) e.event → IsLegalRun s (run ++ e ∷ [])
  legal below event allowed =
      legal_more s run e writing.legal below event
      (subst (λ (r : List RankEvent). IsStep (judged_by s r).memory e.event × IsPermitted s e.rank ((judged_by s r).records e.rank) e.event) writing.judged allowed)

  -- the line was put behind what waits
  wrote : new.setup ≡ s → e.rank < s.nue → IsEvent e.event → IsStep (chip_of old).memory e.event × IsPermitted s e.rank ((chip_of old).records e.rank) e.event
      → new.run ≡ old.run ++ e ∷ [] → RestWaits (waited ++ event_line s e) waiting mid after → IsWriting before new waiting after (run ++ e ∷ [])
  wrote same below event allowed takes waits =
      let text = waits_after before mid after (trace_text s run) (event_line s e) waited waiting writing.waits waits in
      let whole : RestWaits (trace_text s (run ++ e ∷ [])) waiting before after = subst (λ (t : List ℕ). RestWaits t waiting before after) (sym (text_more s run e)) text in
      record {
        judged = takes ∙ ap (λ (r : List RankEvent). r ++ e ∷ []) writing.judged;
        legal = subst (λ (x : SetupView). IsLegalRun x (run ++ e ∷ [])) (sym same) (legal below event allowed);
        waits = subst (λ (x : SetupView). RestWaits (trace_text x (run ++ e ∷ [])) waiting before after) (sym same) whole;
      }

  -- the sink did not take it
  wrote_short : new.setup ≡ s → e.rank < s.nue → IsEvent e.event → IsStep (chip_of old).memory e.event × IsPermitted s e.rank ((chip_of old).records e.rank) e.event
      → new.run ≡ old.run ++ e ∷ [] → CutShort (waited ++ event_line s e) mid after → WasCutShort new.setup before after new.run (run ++ e ∷ [])
  wrote_short same below event allowed takes cut =
      subst (λ (x : SetupView). WasCutShort x before after new.run (run ++ e ∷ [])) (sym same)
      (subst (λ (w : List RankEvent). WasCutShort s before after w (run ++ e ∷ [])) (sym (takes ∙ ap (λ (r : List RankEvent). r ++ e ∷ []) writing.judged)) (record {
        front = record { rest = []; parts = sym (append-nil (run ++ e ∷ [])); legal = legal below event allowed };
        cut = subst (λ (t : List ℕ). CutShort t before after) (sym (text_more s run e))
            (cut_waiting before mid after (trace_text s run) (event_line s e) waited writing.waits cut);
      }))

  -- however the sink took it
  pub wrote_by : (t : SetupView) (answer : Option TraceFault) → t ≡ new.setup → new.setup ≡ s → e.rank < s.nue → IsEvent e.event
      → IsStep (chip_of old).memory e.event × IsPermitted s e.rank ((chip_of old).records e.rank) e.event → new.run ≡ old.run ++ e ∷ []
      → HasGathered (event_line t e) waited waiting mid after answer → HasWritten before new waiting after answer (run ++ e ∷ [])
  wrote_by t None is same below event allowed takes waits =
      wrote same below event allowed takes (subst (λ (x : SetupView). RestWaits (waited ++ event_line x e) waiting mid after) (is ∙ same) waits)
  wrote_by t (Some fault.Write) is same below event allowed takes cut =
      wrote_short same below event allowed takes (subst (λ (x : SetupView). CutShort (waited ++ event_line x e) mid after) (is ∙ same) cut)
  wrote_by t (Some (fault.Refused rank why)) is same below event allowed takes has = absurd has

  -- the judge refused it
  pub refused : (rank : ℕ) (why : Refusal) → e.rank ≡ rank → refusal_of (chip_of old) e ≡ Some why
      → WasRefused s rank why before waited mid old.run (run ++ e ∷ [])
  refused rank why by is = subst (λ (w : List RankEvent). WasRefused s rank why before waited mid w (run ++ e ∷ [])) (sym writing.judged) (record {
    front = record { rest = e ∷ []; parts = refl; legal = writing.legal };
    refuses = record { event = e; rest = []; parts = refl; made_by = by; refused = subst (λ (r : List RankEvent). refusal_of (judged_by s r) e ≡ Some why) writing.judged is };
    waits = writing.waits;
  })

-- ---- behind a fault nothing more is looked at

front_more : (s : SetupView) (written run : List RankEvent) (e : RankEvent) → HasLegalFront s written run → HasLegalFront s written (run ++ e ∷ [])
front_more s written run e front = record {
  rest = front.rest ++ e ∷ [];
  parts = ap (λ (l : List RankEvent). l ++ e ∷ []) front.parts ∙ append_assoc written front.rest (e ∷ []);
  legal = front.legal;
}

pub fault_stays : (before : SinkView) (chip : JudgeView) (waiting : List ℕ) (now : SinkView) (why : TraceFault) (run : List RankEvent) (e : RankEvent)
    → HasWritten before chip waiting now (Some why) run → HasWritten before chip waiting now (Some why) (run ++ e ∷ [])
fault_stays before chip waiting now fault.Write run e has =
    record { front = front_more chip.setup chip.run run e has.front; cut = has.cut }
fault_stays before chip waiting now (fault.Refused rank why) run e has = record {
  front = front_more chip.setup chip.run run e has.front;
  refuses = record {
    event = has.refuses.event;
    rest = has.refuses.rest ++ e ∷ [];
    parts = ap (λ (l : List RankEvent). l ++ e ∷ []) has.refuses.parts ∙ append_assoc chip.run (has.refuses.event ∷ has.refuses.rest) (e ∷ []);
    made_by = has.refuses.made_by;
    refused = has.refuses.refused;
  };
  waits = has.waits;
}

-- ---- the end

whole_sent : (before mid after : SinkView) (text waited : List ℕ) → RestWaits text waited before mid → after ≡ with_text waited mid → after ≡ with_text text before
whole_sent before mid after text waited waits sent =
    text_after before mid after waits.gone waited waits.left sent ∙ ap (λ (t : List ℕ). with_text t before) (sym waits.whole)

cut_sent : (before mid after : SinkView) (text waited : List ℕ) → RestWaits text waited before mid → CutShort waited mid after → CutShort text before after
cut_sent before mid after text waited waits cut =
    subst (λ (t : List ℕ). CutShort t before after) (sym waits.whole) (cut_after before mid after waits.gone waited waits.left cut)

pub closed : (before mid after : SinkView) (chip : JudgeView) (waited : List ℕ) (run : List RankEvent) → IsWriting before chip waited mid run → after ≡ with_text waited mid
    → TraceSent chip.setup before after chip.run run (Ok tt)
closed before mid after chip waited run writing sent = (writing.legal, whole_sent before mid after (trace_text chip.setup run) waited writing.waits sent, writing.judged)

pub closed_short : (before mid after : SinkView) (chip : JudgeView) (waited : List ℕ) (run : List RankEvent) → IsWriting before chip waited mid run → CutShort waited mid after
    → WasCutShort chip.setup before after chip.run run
closed_short before mid after chip waited run writing cut =
    subst (λ (w : List RankEvent). WasCutShort chip.setup before after w run) (sym writing.judged) (record {
      front = record { rest = []; parts = sym (append-nil run); legal = writing.legal };
      cut = cut_sent before mid after (trace_text chip.setup run) waited writing.waits cut;
    })

pub closed_refused : (s : SetupView) (rank : ℕ) (why : Refusal) (before mid after : SinkView) (waited : List ℕ) (written run : List RankEvent)
    → WasRefused s rank why before waited mid written run → after ≡ with_text waited mid → WasRefused s rank why before [] after written run
closed_refused s rank why before mid after waited written run was sent = record {
  front = was.front;
  refuses = was.refuses;
  waits = record {
    gone = trace_text s written;
    whole = sym (append-nil (trace_text s written));
    left = whole_sent before mid after (trace_text s written) waited was.waits sent;
  };
}

pub refused_short : (s : SetupView) (rank : ℕ) (why : Refusal) (before mid after : SinkView) (waited : List ℕ) (written run : List RankEvent)
    → WasRefused s rank why before waited mid written run → CutShort waited mid after → WasCutShort s before after written run
refused_short s rank why before mid after waited written run was cut =
    record { front = was.front; cut = cut_sent before mid after (trace_text s written) waited was.waits cut }

-- however the sink took what waited
pub closed_by : (before mid after : SinkView) (chip : JudgeView) (waited : List ℕ) (run : List RankEvent) (answer : Result (Unit {0}) TraceFault) → IsWriting before chip waited mid run
    → SendsWaiting waited mid after answer → TraceSent chip.setup before after chip.run run answer
closed_by before mid after chip waited run (Ok _) writing sent = closed before mid after chip waited run writing sent
closed_by before mid after chip waited run (Err fault.Write) writing cut = closed_short before mid after chip waited run writing cut
closed_by before mid after chip waited run (Err (fault.Refused rank why)) writing none = absurd none

-- a front whose text was cut short by the sink
pub refused_by : (s : SetupView) (rank : ℕ) (why : Refusal) (before mid after : SinkView) (waited : List ℕ) (written run : List RankEvent) (answer : TraceFault)
    → WasRefused s rank why before waited mid written run → SendsWaiting waited mid after (Err answer) → TraceSent s before after written run (Err answer)
refused_by s rank why before mid after waited written run fault.Write was cut = refused_short s rank why before mid after waited written run was cut
refused_by s rank why before mid after waited written run (fault.Refused other reason) was none = absurd none

-- ---- fronts

pub front_one : (old new : List RankEvent) (e : RankEvent) → new ≡ old ++ e ∷ [] → IsFrontOf old new
front_one old new e is = record { rest = e ∷ []; parts = is }

pub front_same : (old new : List RankEvent) → new ≡ old → IsFrontOf old new
front_same old new is = record { rest = []; parts = is ∙ sym (append-nil old) }

pub front_on : (front old new : List RankEvent) → IsFrontOf front old → IsFrontOf old new → IsFrontOf front new
front_on front old new one two = record {
  rest = one.rest ++ two.rest;
  parts = two.parts ∙ ap (λ (l : List RankEvent). l ++ two.rest) one.parts ∙ append_assoc front one.rest two.rest;
}

-- a desk without a fault has judged all that it was told
pub heard_by : (before : SinkView) (judge : JudgeView) (waiting : List ℕ) (now : SinkView) (why : Option TraceFault) (run : List RankEvent) → is_none why ≡ true
    → HasWritten before judge waiting now why run → IsFrontOf run judge.run
heard_by before judge waiting now None run none writing = front_same run judge.run writing.judged
heard_by before judge waiting now (Some why) run none has = absurd (false≢true none)
