-- The law of agreement: a permitted event that is a step keeps words and records in agreement.
use Rattle.std.proofs.Common.{◌≡◌, ◌≢◌, ℕ, ◌<◌, List, [], ◌∷◌, ◌++◌, sym, ◌∙◌, ap, subst}
use Rattle.scc_base.specs.Events.{IsEvent}
use Rattle.scc_base.specs.Setups.{SetupView, IsSetup, setup_key}
use Rattle.scc_base.specs.declared.events.Event.{Event}
use Rattle.scc_proto.specs.Tables.{table_with}
use Rattle.scc_proto.specs.Stages.{Record, blank}
use Rattle.scc_proto.specs.Words.{Memory, zeros, IsStep, memory_after, SameWords, RankEvent, IsRun}
use Rattle.scc_proto.specs.Records.{IsPermitted, record_after, record_of, chunk_of}
use Rattle.scc_proto.specs.Moves.{after}
use Rattle.scc_proto.specs.Views.{view_of}
use Rattle.scc_proto.specs.Histories.{records_of, memory_from, IsPermittedRun}
use Rattle.scc_proto.specs.Legality.{Grows}
use Rattle.scc_proto.specs.Passed.{passed_calls, slot_of}
use Rattle.scc_proto.specs.Agreement.{Agrees}
use Rattle.scc_proto.proofs.Agreement.EventLaw.{agreement_after, agrees_same, as_holding, grows_holding}
use Rattle.scc_proto.proofs.Layouts.LayoutLaw.{event_made}
use Rattle.scc_proto.proofs.Messages.MessageCalls.{calls_grow}
use Rattle.scc_proto.proofs.Words.RegisterLaw.{registers_kept}
use Rattle.scc_proto.proofs.Words.WordLaw.{words_kept}
use Rattle.scc_proto.proofs.PortLaws.{record_of-push}
use Rattle.scc_proto.proofs.Tests.{same_or_other, put_here, put_there}
use Rattle.scc_proto.proofs.Agreement.StartLaw.{agrees_at_start}
use Rattle.scc_proto.proofs.Agreement.ListLaw.{KeepsAgreement, run_agrees, records_from_start}

pub agreement_kept : (s : SetupView) → IsSetup s → KeepsAgreement s
agreement_kept s setup memory records me e agrees below is step may =
    let made = event_made s memory records me e setup below is step may agrees.registers in
    agreement_after s memory records me e made.0 made.1 setup agrees made.2.step made.2.shows made.2.becomes
    (registers_kept s me memory records e setup below is step may agrees.registers)
    (words_kept s me memory records e setup below is step may agrees.registers agrees.words)
    (calls_grow s me (view_of s memory) records made.0 setup made.2.step agrees.singles agrees.pairs agrees.senders agrees.groups)

-- the passed calls grow by nothing, or by the calls of one step at their ends
pub passed_grow : (s : SetupView) → IsSetup s → (memory : Memory) (records : ℕ → Record) (me : ℕ) (e : Event) → Agrees s memory records → me < s.nue → IsEvent e → IsStep memory e → IsPermitted s me (records me) e
    → Grows s.nue (setup_key s) (passed_calls s records) (slot_of s records)
    (passed_calls s (table_with records me (record_after s me (records me) e))) (slot_of s (table_with records me (record_after s me (records me) e)))
passed_grow s setup memory records me e agrees below is step may =
    let made = event_made s memory records me e setup below is step may agrees.registers in
    let next = table_with records me (after (chunk_of s) made.0 (records me)) in
    let new = table_with records me (record_after s me (records me) e) in
    subst (λ (x : ℕ → Record). Grows s.nue (setup_key s) (passed_calls s records) (slot_of s records) (passed_calls s x) (slot_of s x))
    (λ i. sym (as_holding records me (record_after s me (records me) e) (after (chunk_of s) made.0 (records me)) made.1 made.2.becomes) i)
    (grows_holding s (λ k. (new k).held) next (passed_calls s records) (slot_of s records)
    (calls_grow s me (view_of s memory) records made.0 setup made.2.step agrees.singles agrees.pairs agrees.senders agrees.groups))

-- after every list of events, each permitted, from the start
pub agreement_of_lists : (s : SetupView) → IsSetup s → (run : List RankEvent) → IsRun zeros run → IsPermittedRun s (λ r. blank) run → Agrees s (memory_from zeros run) (records_of s run)
agreement_of_lists s setup run steps may =
    subst (λ (x : ℕ → Record). Agrees s (memory_from zeros run) x) (records_from_start s run)
    (run_agrees s (agreement_kept s setup) zeros (λ r. blank) run (agrees_at_start s) steps may)

-- ---- over the lists of events of all ranks

-- one rank's list has one event more, and no other list changed
pub record OneMore (me : ℕ) (e : Event) (lists more : ℕ → List Event) : Type 0 where
  pub own : more me ≡ lists me ++ e ∷ []
  pub others : (r : ℕ) → r ≢ me → more r ≡ lists r

records_more : (s : SetupView) (me : ℕ) (e : Event) (lists more : ℕ → List Event) → OneMore me e lists more
    → table_with (λ r. record_of s r (lists r)) me (record_after s me (record_of s me (lists me)) e) ≡ (λ r. record_of s r (more r))
records_more s me e lists more grows = λ i r. at_rank r i
  where
    at_rank : (r : ℕ) → table_with (λ q. record_of s q (lists q)) me (record_after s me (record_of s me (lists me)) e) r ≡ record_of s r (more r)
    at_rank r = same_or_other (table_with (λ q. record_of s q (lists q)) me (record_after s me (record_of s me (lists me)) e) r ≡ record_of s r (more r)) r me
        (λ t is. ap (table_with (λ q. record_of s q (lists q)) me (record_after s me (record_of s me (lists me)) e)) is
        ∙ put_here (λ q. record_of s q (lists q)) me (record_after s me (record_of s me (lists me)) e)
        ∙ sym (record_of-push s me (lists me) e) ∙ ap (λ (l : List Event). record_of s me l) (sym grows.own) ∙ ap (λ q. record_of s q (more q)) (sym is))
        (λ t ne. put_there (λ q. record_of s q (lists q)) me (record_after s me (record_of s me (lists me)) e) r ne ∙ ap (λ (l : List Event). record_of s r l) (sym (grows.others r ne)))

-- one event more, over lists, and over any memory with the words that it leaves
pub lists_kept : (s : SetupView) → IsSetup s → (memory late : Memory) (lists more : ℕ → List Event) (me : ℕ) (e : Event) → Agrees s memory (λ r. record_of s r (lists r))
    → me < s.nue → IsEvent e → IsStep memory e → IsPermitted s me (record_of s me (lists me)) e → SameWords (memory_after memory e) late → OneMore me e lists more
    → Agrees s late (λ r. record_of s r (more r))
lists_kept s setup memory late lists more me e agrees below is step may same grows =
    agrees_same s (memory_after memory e) late (λ r. record_of s r (more r)) same
    (subst (λ (x : ℕ → Record). Agrees s (memory_after memory e) x) (records_more s me e lists more grows)
    (agreement_kept s setup memory (λ r. record_of s r (lists r)) me e agrees below is step may))
