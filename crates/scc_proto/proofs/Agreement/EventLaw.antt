-- Agreement under one event, from its parts.
use Rattle.std.proofs.Common.{◌≡◌, ℕ, List, ◌++◌, Option, Some, None, refl, sym, ◌∙◌, ap, subst, arith}
use Rattle.scc_base.specs.Calls.{DataCall}
use Rattle.scc_base.specs.Setups.{SetupView, IsSetup, setup_key}
use Rattle.scc_base.specs.declared.events.Event.{Event}
use Rattle.scc_base.specs.declared.signals.Signal.TheVariants.{Sent, Ready}
use Rattle.scc_proto.specs.Tables.{table_with}
use Rattle.scc_proto.specs.Stages.{Stage, Idle, Drafting, Sending, Between, Taking, Barrier, InFlight, FlagWords, Record}
use Rattle.scc_proto.specs.Moves.{Move, after}
use Rattle.scc_proto.specs.Words.{Memory, memory_after, SameWords}
use Rattle.scc_proto.specs.Records.{chunk_of, record_after}
use Rattle.scc_proto.specs.Views.{View, view_of, view_after_move}
use Rattle.scc_proto.specs.Singles.{IsConsistent}
use Rattle.scc_proto.specs.Pairs.{pair_of, BufferStands}
use Rattle.scc_proto.specs.Legality.{Outgoing, IsLegal, Grows}
use Rattle.scc_proto.specs.Passed.{passed_open, passed_calls, slot_by, slot_of}
use Rattle.scc_proto.specs.Agreement.{RecordsAgree, PairsAgree, SendersAgree, GroupsAgree, RegistersAgree, WordsAgree, CallsAgree, Agrees}
use Rattle.scc_proto.proofs.Layouts.MoveFacts.{IsViewStep, SameView}
use Rattle.scc_proto.proofs.Tests.{same_or_other, put_here, put_there, peers_are, peers_swap}
use Rattle.scc_proto.proofs.Pairs.PairFrames.{same_pair}
use Rattle.scc_proto.proofs.Agreement.SingleLaw.{single_kept}
use Rattle.scc_proto.proofs.Pairs.SenderLaw.{sender_kept, buffer_left}
use Rattle.scc_proto.proofs.Pairs.PairLaw.{pairs_kept}
use Rattle.scc_proto.proofs.Barriers.GroupLaw.{groups_kept}
use Rattle.scc_proto.proofs.Legality.LegalLaws.{legal_grown}

-- ---- another view that shows the same

module _ (s : SetupView) (one other : View) (same : SameView s one other) (records : ℕ → Record) where
  pub pairs_same : PairsAgree s one records → PairsAgree s other records
  pairs_same pairs from to peers =
      let p = peers_are s from to peers in
      same_pair (chunk_of s) (pair_of from to one (records from) (records to)) (pair_of from to other (records from) (records to))
      (sym (same.signal Sent from to peers)) (sym (same.signal Ready to from (peers_swap s from to peers))) refl refl refl (λ i k. sym (same.header from k p.one) i) (λ i k. sym (same.chunk from k p.one) i) refl refl (pairs from to peers)

  pub senders_same : SendersAgree s one records → SendersAgree s other records
  senders_same senders r below =
      subst (λ (h : ℕ → ℕ). BufferStands (records r) h (other.chunk r)) (λ i k. same.header r k below i)
      (subst (λ (c : ℕ → ℕ). BufferStands (records r) (one.header r) c) (λ i k. same.chunk r k below i) (senders r below))

  pub groups_same : GroupsAgree s one records → GroupsAgree s other records
  groups_same groups comm r present below =
      let g = groups comm r present below in
      record {
        gather_flag = sym (same.gather comm r present below) ∙ g.gather_flag;
        root = λ first. sym (same.release comm r present below) ∙ g.root first;
        member = λ other_place. let m = g.member other_place in
            record { release_flag = sym (same.release comm r present below) ∙ m.release_flag; entered = m.entered; not_ahead = m.not_ahead; waits = m.waits; seen = m.seen };
      }

-- ---- other registers held

-- the records with other registers held
abbrev pub holding : (ℕ → ℕ → Option FlagWords) → (ℕ → Record) → ℕ → Record
holding held records = λ k. record (records k) { held = held k }

module _ (s : SetupView) (held : ℕ → ℕ → Option FlagWords) (records : ℕ → Record) where
  pub single_holding : (r : ℕ) → IsConsistent s r (records r) → IsConsistent s r (holding held records r)
  single_holding r c = record { stage = c.stage; post = c.post; notes = c.notes; flips = c.flips; calls = c.calls }

  pub pairs_holding : (view : View) → PairsAgree s view records → PairsAgree s view (holding held records)
  pairs_holding view pairs from to peers = pairs from to peers

  pub senders_holding : (view : View) → SendersAgree s view records → SendersAgree s view (holding held records)
  senders_holding view senders r below = let b = senders r below in record { draft = b.draft; post = b.post }

  pub groups_holding : (view : View) → GroupsAgree s view records → GroupsAgree s view (holding held records)
  groups_holding view groups comm r present below =
      let g = groups comm r present below in
      record {
        gather_flag = g.gather_flag;
        root = g.root;
        member = λ other_place. let m = g.member other_place in record { release_flag = m.release_flag; entered = m.entered; not_ahead = m.not_ahead; waits = m.waits; seen = m.seen };
      }

  open_holding : (r : ℕ) (st : Stage) → passed_open s r st (holding held records) ≡ passed_open s r st records
  open_holding r Idle = refl
  open_holding r (Drafting header chunk) = refl
  open_holding r (Sending to part message chunk) = refl
  open_holding r (Between i message) = refl
  open_holding r (Taking i message chunk) = refl
  open_holding r (Barrier comm seen released) = refl

  slot_holding : (r : ℕ) (post : Option InFlight) → slot_by (chunk_of s) r post (holding held records) ≡ slot_by (chunk_of s) r post records
  slot_holding r None = refl
  slot_holding r (Some post) = refl

  pub calls_holding : CallsAgree s records → CallsAgree s (holding held records)
  calls_holding calls =
      subst (λ (c : ℕ → List DataCall). IsLegal s.nue (setup_key s) c (slot_of s (holding held records))) (λ i r. (records r).calls ++ sym (open_holding r (records r).stage) i)
      (subst (λ (o : ℕ → Option Outgoing). IsLegal s.nue (setup_key s) (passed_calls s records) o) (λ i r. sym (slot_holding r (records r).post) i) calls)

  pub grows_holding : (old : ℕ → List DataCall) (old_slots : ℕ → Option Outgoing) → Grows s.nue (setup_key s) old old_slots (passed_calls s records) (slot_of s records)
      → Grows s.nue (setup_key s) old old_slots (passed_calls s (holding held records)) (slot_of s (holding held records))
  grows_holding old old_slots grows =
      subst (λ (c : ℕ → List DataCall). Grows s.nue (setup_key s) old old_slots c (slot_of s (holding held records))) (λ i r. (records r).calls ++ sym (open_holding r (records r).stage) i)
      (subst (λ (o : ℕ → Option Outgoing). Grows s.nue (setup_key s) old old_slots (passed_calls s records) o) (λ i r. sym (slot_holding r (records r).post) i) grows)

-- ---- all senders

pub senders_kept : (s : SetupView) (me : ℕ) (view : View) (records : ℕ → Record) (move : Move) → IsViewStep s me view (records me) move → SendersAgree s view records
    → SendersAgree s (view_after_move me move view) (table_with records me (after (chunk_of s) move (records me)))
senders_kept s me view records move step senders r below =
    let next = table_with records me (after (chunk_of s) move (records me)) in
    same_or_other (BufferStands (next r) ((view_after_move me move view).header r) ((view_after_move me move view).chunk r)) r me
    (λ t e. subst (λ x. BufferStands (next x) ((view_after_move me move view).header x) ((view_after_move me move view).chunk x)) (sym e)
    (subst (λ (x : Record). BufferStands x ((view_after_move me move view).header me) ((view_after_move me move view).chunk me)) (sym (put_here records me (after (chunk_of s) move (records me))))
    (sender_kept s me view (records me) move step (senders me step.rank))))
    (λ t ne. subst (λ (x : Record). BufferStands x ((view_after_move me move view).header r) ((view_after_move me move view).chunk r)) (sym (put_there records me (after (chunk_of s) move (records me)) r ne))
    (subst (λ (h : ℕ → ℕ). BufferStands (records r) h ((view_after_move me move view).chunk r)) (sym (buffer_left me r view move ne).0)
    (subst (λ (c : ℕ → ℕ). BufferStands (records r) (view.header r) c) (sym (buffer_left me r view move ne).1) (senders r below))))

-- ---- all records

pub records_kept : (s : SetupView) (me : ℕ) (view : View) (records : ℕ → Record) (move : Move) → IsViewStep s me view (records me) move → RecordsAgree s records
    → RecordsAgree s (table_with records me (after (chunk_of s) move (records me)))
records_kept s me view records move step singles =
    let next = table_with records me (after (chunk_of s) move (records me)) in (
      (λ r below. same_or_other (IsConsistent s r (next r)) r me
          (λ t e. subst (λ x. IsConsistent s x (next x)) (sym e) (subst (λ (x : Record). IsConsistent s me x) (sym (put_here records me (after (chunk_of s) move (records me)))) (single_kept s me view (records me) move step (singles.0 me step.rank))))
          (λ t ne. subst (λ (x : Record). IsConsistent s r x) (sym (put_there records me (after (chunk_of s) move (records me)) r ne)) (singles.0 r below))),
      (λ r beyond. put_there records me (after (chunk_of s) move (records me)) r (λ e. absurd (omega (arith, beyond, step.rank, e))) ∙ singles.1 r beyond),
    )

-- ---- one event

-- the records after it are those after the move, with other registers held
module _ (records : ℕ → Record) (me : ℕ) (new moved : Record) (held : ℕ → Option FlagWords) (is : new ≡ record moved { held = held }) where
  at_rank : (k : ℕ) → table_with records me new k ≡ record (table_with records me moved k) { held = (table_with records me new k).held }
  at_rank k = same_or_other (table_with records me new k ≡ record (table_with records me moved k) { held = (table_with records me new k).held }) k me
      (λ t e.
      let here : table_with records me new k ≡ new = ap (table_with records me new) e ∙ put_here records me new in
      let there : table_with records me moved k ≡ moved = ap (table_with records me moved) e ∙ put_here records me moved in
      let h : held ≡ (table_with records me new k).held = sym (ap (λ (x : Record). x.held) (here ∙ is)) in
      here ∙ is ∙ (λ i. record (sym there i) { held = h i }))
      (λ t ne.
      let here : table_with records me new k ≡ records k = put_there records me new k ne in
      let there : table_with records me moved k ≡ records k = put_there records me moved k ne in
      here ∙ (λ i. record (sym there i) { held = ap (λ (x : Record). x.held) (sym here) i }))

  pub as_holding : table_with records me new ≡ holding (λ k. (table_with records me new k).held) (table_with records me moved)
  as_holding = λ i k. at_rank k i

pub agreement_after : (s : SetupView) (memory : Memory) (records : ℕ → Record) (me : ℕ) (e : Event) (move : Move) (held : ℕ → Option FlagWords) → IsSetup s → Agrees s memory records
    → IsViewStep s me (view_of s memory) (records me) move → SameView s (view_after_move me move (view_of s memory)) (view_of s (memory_after memory e))
    → record_after s me (records me) e ≡ record (after (chunk_of s) move (records me)) { held = held }
    → RegistersAgree s (memory_after memory e) (table_with records me (record_after s me (records me) e)) → WordsAgree s (memory_after memory e) (table_with records me (record_after s me (records me) e))
    → Grows s.nue (setup_key s) (passed_calls s records) (slot_of s records) (passed_calls s (table_with records me (after (chunk_of s) move (records me)))) (slot_of s (table_with records me (after (chunk_of s) move (records me))))
    → Agrees s (memory_after memory e) (table_with records me (record_after s me (records me) e))
agreement_after s memory records me e move held setup agrees step shows after_it registers words grows =
    let next = table_with records me (after (chunk_of s) move (records me)) in
    let new = table_with records me (record_after s me (records me) e) in
    let h : ℕ → ℕ → Option FlagWords = λ k. (table_with records me (record_after s me (records me) e) k).held in
    let is : new ≡ holding h next = as_holding records me (record_after s me (records me) e) (after (chunk_of s) move (records me)) held after_it in
    let view = view_after_move me move (view_of s memory) in
    let other = view_of s (memory_after memory e) in
    let singles = records_kept s me (view_of s memory) records move step agrees.singles in
    let pairs : PairsAgree s other (holding h next) = pairs_holding s h next other (pairs_same s view other shows next (pairs_kept s me (view_of s memory) records move step agrees.singles agrees.senders agrees.pairs)) in
    let senders : SendersAgree s other (holding h next) = senders_holding s h next other (senders_same s view other shows next (senders_kept s me (view_of s memory) records move step agrees.senders)) in
    let groups : GroupsAgree s other (holding h next) = groups_holding s h next other (groups_same s view other shows next (groups_kept s me (view_of s memory) records move setup step agrees.singles agrees.groups)) in
    let calls : CallsAgree s next = legal_grown s.nue (setup_key s) (passed_calls s records) (passed_calls s next) (slot_of s records) (slot_of s next) agrees.calls grows in
    record {
      singles = (
        (λ r below. subst (λ (x : ℕ → Record). IsConsistent s r (x r)) (sym is) (single_holding s h next r (singles.0 r below))),
        (λ r beyond. put_there records me (record_after s me (records me) e) r (λ q. absurd (omega (arith, beyond, step.rank, q))) ∙ agrees.singles.1 r beyond),
      );
      pairs = subst (λ (x : ℕ → Record). PairsAgree s other x) (sym is) pairs;
      senders = subst (λ (x : ℕ → Record). SendersAgree s other x) (sym is) senders;
      groups = subst (λ (x : ℕ → Record). GroupsAgree s other x) (sym is) groups;
      registers = registers;
      words = words;
      calls = subst (λ (x : ℕ → Record). CallsAgree s x) (sym is) (calls_holding s h next calls);
    }

-- ---- the start, and the same memory

pub agrees_same : (s : SetupView) (one other : Memory) (records : ℕ → Record) → SameWords one other → Agrees s one records → Agrees s other records
agrees_same s one other records same agrees = subst (λ (m : Memory). Agrees s m records) (λ i. record { word = λ core line word. same.words core line word i; register = λ core. same.registers core i }) agrees
