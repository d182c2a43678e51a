-- What a rank holds keeps its lengths, whatever stands next; and what its machine comes to is what the step of a run says.
use Rattle.std.proofs.Common.{◌≡◌, ℕ, ◌==◌, ◌&&◌, true, List, [], length, slice_get, Option, Some, refl, sym, ap, ◌∙◌}
use Rattle.std.specs.Option.{option_map_or}
use Rattle.std.proofs.lemmas.Bool.{eqb-true}
use Rattle.std.proofs.lemmas.Option.{same_Some}
use Rattle.scc_base.specs.Heads.{MessageHead}
use Rattle.script_machine.specs.declared.posts.InFlight.{InFlight}
use Rattle.script_machine.specs.declared.posts.Posted.{Posted}
use Rattle.script_plain.specs.declared.steps.Step.TheVariants as step
use Rattle.script_plain.specs.Code.{HasLength, HasPosted, HasRefused, HasSent, HasTaken, IsAtPost, IsAtReceive, IsAtSend, config, decision}
use Rattle.plain_meaning.specs.Kept.{Fits, FitsNext}
use Rattle.script_machine.specs.Local.{Local, local_next}
use Rattle.script_machine.specs.Machine.{in_flight}
use Rattle.script_machine.specs.Moves.{bytes_out, is_passable, is_receiving, length_asked, after_pass, post_of, after_refusal, after_take, went}
use Rattle.script_machine.specs.Next.{Next, is_at_barrier, is_going, past_barrier}
use Rattle.script_machine.specs.Next.Next.{Ends, Goes, Posts, Sends, Recvs, Bars}
use Rattle.plain_meaning.specs.Step.{same_head, slot_at}
use Rattle.script_plain.proofs.CodeSteps.CodeLaws.{fetches}
use Rattle.script_machine.proofs.Choices.{both_true}

module _ (had : ℕ → Option ℕ) where
  pub fits_went : (n : Next Local) (u : Local) → FitsNext had n → is_going n ≡ true → Fits had (went n u)
  fits_went Ends u fits is = absurd (cc)
  fits_went (Goes after) u fits is = fits
  fits_went (Posts message after) u fits is = absurd (cc)
  fits_went (Sends to head bytes after) u fits is = absurd (cc)
  fits_went (Recvs from head take refuse) u fits is = absurd (cc)
  fits_went (Bars comm after) u fits is = absurd (cc)

  pub fits_passed : (n : Next Local) (u : Local) → FitsNext had n → is_passable n ≡ true → Fits had (after_pass n u)
  fits_passed Ends u fits is = absurd (cc)
  fits_passed (Goes after) u fits is = absurd (cc)
  fits_passed (Posts message after) u fits is = fits.0
  fits_passed (Sends to head bytes after) u fits is = fits.0
  fits_passed (Recvs from head take refuse) u fits is = absurd (cc)
  fits_passed (Bars comm after) u fits is = fits

  pub fits_taken : (n : Next Local) (u : Local) (bytes : List ℕ) → FitsNext had n → is_receiving n ≡ true → length bytes ≡ length_asked n → Fits had (after_take n bytes u)
  fits_taken Ends u bytes fits is long = absurd (cc)
  fits_taken (Goes after) u bytes fits is long = absurd (cc)
  fits_taken (Posts message after) u bytes fits is long = absurd (cc)
  fits_taken (Sends to head sent after) u bytes fits is long = absurd (cc)
  fits_taken (Recvs from head take refuse) u bytes fits is long = fits.0 bytes long
  fits_taken (Bars comm after) u bytes fits is long = absurd (cc)

  pub fits_refused : (n : Next Local) (u : Local) (sent : MessageHead) → FitsNext had n → is_receiving n ≡ true → Fits had (after_refusal n sent u)
  fits_refused Ends u sent fits is = absurd (cc)
  fits_refused (Goes after) u sent fits is = absurd (cc)
  fits_refused (Posts message after) u sent fits is = absurd (cc)
  fits_refused (Sends to head bytes after) u sent fits is = absurd (cc)
  fits_refused (Recvs from head take refuse) u sent fits is = fits.1 sent
  fits_refused (Bars comm after) u sent fits is = absurd (cc)

  -- a posted message has as many bytes as its head says, and so has one that is sent
  pub post_even : (n : Next Local) (p : InFlight) (bytes : List ℕ) → FitsNext had n → post_of n ≡ Some p → bytes ≡ bytes_out n → length bytes ≡ p.head.len
  post_even Ends p bytes fits is same = absurd (cc)
  post_even (Goes after) p bytes fits is same = absurd (cc)
  post_even (Posts message after) p bytes fits is same =
      let post : in_flight message ≡ p = same_Some (in_flight message) p is in
      ap length same ∙ fits.1 ∙ ap (λ (q : InFlight). q.head.len) post
  post_even (Sends other sent some after) p bytes fits is same = absurd (cc)
  post_even (Recvs from asked take refuse) p bytes fits is same = absurd (cc)
  post_even (Bars comm after) p bytes fits is same = absurd (cc)

  -- with nothing left the lengths stay
  pub fits_end : (u : Local) → Fits had u → Fits had (record u { left = []; printed = [] })
  fits_end u fits =
      record {
        acc = fits.acc;
        got = fits.got;
        registers = fits.registers;
        accumulator = fits.accumulator;
        received = fits.received;
        keeps = tt;
      }

-- a rank's own statement
pub went_goes : (n : Next Local) (u : Local) → is_going n ≡ true → n ≡ Goes (went n u)
went_goes Ends u is = absurd (cc)
went_goes (Goes after) u is = refl
went_goes (Posts message after) u is = absurd (cc)
went_goes (Sends to head bytes after) u is = absurd (cc)
went_goes (Recvs from head take refuse) u is = absurd (cc)
went_goes (Bars comm after) u is = absurd (cc)

-- a post
pub post_passable : (n : Next Local) → IsAtPost n → is_passable n ≡ true
post_passable Ends at = absurd at
post_passable (Goes after) at = absurd at
post_passable (Posts message after) at = refl
post_passable (Sends to head bytes after) at = absurd at
post_passable (Recvs from head take refuse) at = absurd at
post_passable (Bars comm after) at = absurd at

pub posted_as : (n : Next Local) (u : Local) (p : InFlight) (bytes : List ℕ) → post_of n ≡ Some p → bytes ≡ bytes_out n
    → HasPosted n (record { to = p.to; head = p.head; bytes = bytes; line = p.line }) (after_pass n u)
posted_as Ends u p bytes is same = absurd (cc)
posted_as (Goes after) u p bytes is same = absurd (cc)
posted_as (Posts message after) u p bytes is same =
    let post : p ≡ in_flight message = sym (same_Some (in_flight message) p is) in
    ((λ i. record { to = (post i).to; head = (post i).head; bytes = same i; line = (post i).line }), refl)
posted_as (Sends other sent some after) u p bytes is same = absurd (cc)
posted_as (Recvs from asked take refuse) u p bytes is same = absurd (cc)
posted_as (Bars comm after) u p bytes is same = absurd (cc)

-- a send
pub send_passable : (n : Next Local) → IsAtSend n → is_passable n ≡ true
send_passable Ends at = absurd at
send_passable (Goes after) at = absurd at
send_passable (Posts message after) at = absurd at
send_passable (Sends to head bytes after) at = refl
send_passable (Recvs from head take refuse) at = absurd at
send_passable (Bars comm after) at = absurd at

pub sent_as : (n : Next Local) (u : Local) (bytes : List ℕ) → IsAtSend n → bytes ≡ bytes_out n → HasSent n bytes (after_pass n u)
sent_as Ends u bytes at same = absurd at
sent_as (Goes after) u bytes at same = absurd at
sent_as (Posts message after) u bytes at same = absurd at
sent_as (Sends to head sent after) u bytes at same = (same, refl)
sent_as (Recvs from head take refuse) u bytes at same = absurd at
sent_as (Bars comm after) u bytes at same = absurd at

-- a receive
pub receiving : (n : Next Local) → IsAtReceive n → is_receiving n ≡ true
receiving Ends at = absurd at
receiving (Goes after) at = absurd at
receiving (Posts message after) at = absurd at
receiving (Sends to head bytes after) at = absurd at
receiving (Recvs from head take refuse) at = refl
receiving (Bars comm after) at = absurd at

pub taken_as : (n : Next Local) (u : Local) (bytes : List ℕ) → IsAtReceive n → HasTaken n bytes (after_take n bytes u)
taken_as Ends u bytes at = absurd at
taken_as (Goes after) u bytes at = absurd at
taken_as (Posts message after) u bytes at = absurd at
taken_as (Sends to head sent after) u bytes at = absurd at
taken_as (Recvs from head take refuse) u bytes at = refl
taken_as (Bars comm after) u bytes at = absurd at

pub refused_as : (n : Next Local) (u : Local) (sent : MessageHead) → IsAtReceive n → HasRefused n sent (after_refusal n sent u)
refused_as Ends u sent at = absurd at
refused_as (Goes after) u sent at = absurd at
refused_as (Posts message after) u sent at = absurd at
refused_as (Sends to head bytes after) u sent at = absurd at
refused_as (Recvs from head take refuse) u sent at = refl
refused_as (Bars comm after) u sent at = absurd at

-- a barrier
pub barrier_passable : (comm : ℕ) (n : Next Local) → is_at_barrier comm n ≡ true → is_passable n ≡ true
barrier_passable comm Ends at = absurd (cc)
barrier_passable comm (Goes after) at = absurd (cc)
barrier_passable comm (Posts message after) at = absurd (cc)
barrier_passable comm (Sends to head bytes after) at = absurd (cc)
barrier_passable comm (Recvs from head take refuse) at = absurd (cc)
barrier_passable comm (Bars asked after) at = refl

pub barrier_past : (comm : ℕ) (n : Next Local) (u : Local) → is_at_barrier comm n ≡ true → after_pass n u ≡ past_barrier n u
barrier_past comm Ends u at = absurd (cc)
barrier_past comm (Goes after) u at = absurd (cc)
barrier_past comm (Posts message after) u at = absurd (cc)
barrier_past comm (Sends to head bytes after) u at = absurd (cc)
barrier_past comm (Recvs from head take refuse) u at = absurd (cc)
barrier_past comm (Bars asked after) u at = refl

-- what was sent has as many bytes as its head says
pub sent_long : (had : ℕ → Option ℕ) (n : Next Local) (bytes : List ℕ) → FitsNext had n → IsAtSend n → bytes ≡ bytes_out n → HasLength n bytes
sent_long had Ends bytes fits at same = absurd at
sent_long had (Goes after) bytes fits at same = absurd at
sent_long had (Posts message after) bytes fits at same = absurd at
sent_long had (Sends to head sent after) bytes fits at same = ap length same ∙ fits.1
sent_long had (Recvs from head take refuse) bytes fits at same = absurd at
sent_long had (Bars comm after) bytes fits at same = absurd at

-- equal heads say equally many bytes
pub same_long : (sent asked : MessageHead) → same_head sent asked ≡ true → sent.len ≡ asked.len
same_long sent asked same =
    eqb-true sent.len asked.len (both_true ((sent.kind == asked.kind) && (sent.comm == asked.comm)) (sent.len == asked.len) same).1

module _ (keys : ℕ → ℕ → ℕ) (ues : List Local) (slots : List (Option Posted)) (i j : ℕ) where
  -- a rank that takes a message from a slot asks for as many bytes
  pub fetched_long : (u : Local) (message : Posted) → decision keys ues slots i ≡ step.Takes j → slice_get ues i ≡ Some u → slot_at (config ues slots) j ≡ Some message → length message.bytes ≡ message.head.len
      → length message.bytes ≡ length_asked (local_next u)
  fetched_long u message is here slot even =
      let fetch = fetches ues slots i j keys is in
      let stands : local_next u ≡ Recvs j fetch.asked fetch.take fetch.refuse = sym (ap (λ (o : Option Local). option_map_or local_next o Ends) here) ∙ fetch.stands in
      let same : fetch.message ≡ message = same_Some fetch.message message (sym fetch.slot ∙ slot) in
      even ∙ ap (λ (m : Posted). m.head.len) (sym same) ∙ same_long fetch.message.head fetch.asked fetch.same ∙ sym (ap length_asked stands)
