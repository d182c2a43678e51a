-- The example of three ranks that wait is one: words and records agree, each state fits its record, and each look is vain.
use Rattle.std.proofs.Common.{rules, ◌≡◌, ◌≢◌, ℕ, zero, suc, ◌%◌, ◌<◌, true, List, [], ◌∷◌, map, slice_index_or, Option, Some, None, refl, sym, ap, ◌∙◌, subst, arith}
use Rattle.std.specs.List.{range_with_len}
use Rattle.scc_base.specs.Calls.{DataCall}
use Rattle.scc_base.specs.Calls.DataCall.{Post}
use Rattle.scc_base.specs.Communicators.{AreRules, IsRule, key_of}
use Rattle.scc_base.specs.Heads.{MessageHead, plain_head}
use Rattle.scc_base.specs.Setups.{AreApart, IsSetup, place_of}
use Rattle.scc_base.specs.declared.communicators.CommRule.TheVariants.{Absent}
use Rattle.scc_proto.specs.Agreement.{Agrees}
use Rattle.scc_proto.specs.Histories.{IsPermittedRun}
use Rattle.scc_proto.specs.Legality.{Outgoing}
use Rattle.scc_proto.specs.Messages.{Notes, bytes_from, has_all, head_of, is_zero_from}
use Rattle.scc_proto.specs.Passed.{slot_of}
use Rattle.scc_proto.specs.Records.{act_of, record_of}
use Rattle.scc_proto.specs.Stages.{Idle, Barrier, blank}
use Rattle.scc_proto.specs.Views.{view_of}
use Rattle.scc_proto.specs.Words.{IsRun, zeros}
use Rattle.scc_proto.proofs.Agreement.AgreementLaw.{agreement_of_lists}
use Rattle.script_rules.specs.Script.{first_split, rules_of}
use Rattle.plain_meaning.specs.Collectives.{start_of_rank}
use Rattle.script_machine.specs.Local.{gone_on, gone_on_with, local_next, local_start, stopped_at}
use Rattle.plain_meaning.specs.Meaning.{State, next_of}
use Rattle.script_machine.specs.Next.Next.{Ends, Posts, Recvs, Bars}
use Rattle.plain_meaning.specs.Paths.{DidCalls}
use Rattle.plain_meaning.specs.Paths.DidCalls.{Here, Left}
use Rattle.script_machine.specs.Program.{unrolled_items}
use Rattle.rcce_run.specs.Examples.{three_items, three_script, three_setup, three_events, three_words, three_records, three_message, three_states, three_lasts}
use Rattle.rcce_run.specs.Scripts.{IsSwept}
use Rattle.chip_run.specs.Waiting.{AtMember}
use Rattle.rcce_run.specs.Sweep.{IsStateOfRecord, Running, Stopped, Failed, keep, slots_by}

-- ---- the setup, and the agreement

no_split : (xs : List ℕ) (n : ℕ) → slice_index_or (map (first_split three_items) xs) n Absent ≡ Absent
no_split [] n = refl
no_split (x ∷ xs) zero = refl
no_split (x ∷ xs) (suc n) = no_split xs n

are_rules : AreRules (rules_of three_items)
are_rules zero below = refl
are_rules (suc n) below = subst (IsRule (rules_of three_items) (suc n)) (sym (no_split (range_with_len 1 15) n)) (λ is. absurd (omega (arith, is)))

apart : AreApart 3 (0 ∷ 1 ∷ 2 ∷ [])
apart zero zero low high same = absurd (omega (arith, low))
apart zero (suc zero) low high same = let e : 0 ≡ 1 = same in absurd (omega (arith, e))
apart zero (suc (suc zero)) low high same = let e : 0 ≡ 2 = same in absurd (omega (arith, e))
apart zero (suc (suc (suc q))) low high same = absurd (omega (arith, high))
apart (suc zero) zero low high same = absurd (omega (arith, low))
apart (suc zero) (suc zero) low high same = absurd (omega (arith, low))
apart (suc zero) (suc (suc zero)) low high same = let e : 1 ≡ 2 = same in absurd (omega (arith, e))
apart (suc zero) (suc (suc (suc q))) low high same = absurd (omega (arith, high))
apart (suc (suc r)) q low high same = absurd (omega (arith, low, high))

setup : IsSetup three_setup
setup = record { some_ranks = omega arith; ranks_within = omega arith; apart = apart; rules = are_rules }

is_run : IsRun zeros three_events
is_run = search rules

permitted : IsPermittedRun three_setup (λ r. blank) three_events
unfolding act_of record_of has_all is_zero_from bytes_from key_of
permitted = search rules

agrees : Agrees three_setup three_words three_records
agrees = agreement_of_lists three_setup setup three_events is_run permitted

-- ---- the records

calls_0 : (three_records 0).calls ≡ Post 1 (plain_head 0) [] ∷ []
unfolding act_of record_of has_all is_zero_from bytes_from key_of
calls_0 = refl

calls_1 : (three_records 1).calls ≡ []
unfolding act_of record_of has_all is_zero_from bytes_from key_of
calls_1 = refl

calls_2 : (three_records 2).calls ≡ []
unfolding act_of record_of has_all is_zero_from bytes_from key_of
calls_2 = refl

stage_0 : (three_records 0).stage ≡ Idle
unfolding act_of record_of has_all is_zero_from bytes_from key_of
stage_0 = refl

stage_1 : (three_records 1).stage ≡ Idle
unfolding act_of record_of has_all is_zero_from bytes_from key_of
stage_1 = refl

stage_2 : (three_records 2).stage ≡ Barrier 0 0 0
unfolding act_of record_of has_all is_zero_from bytes_from key_of
stage_2 = refl

flips_2 : (three_records 2).flips 0 ≡ 1
unfolding act_of record_of has_all is_zero_from bytes_from key_of
flips_2 = refl

abbrev header : Notes
header = record { number = 2; word = 0 } ∷ record { number = 1; word = 0 } ∷ record { number = 0; word = 0 } ∷ []

notes_1 : (three_records 1).notes 0 ≡ Some header
unfolding act_of record_of has_all is_zero_from bytes_from key_of
notes_1 = refl

noted : has_all header 3 ≡ true
unfolding has_all
noted = refl

full : slot_of three_setup three_records 0 ≡ Some (record { to = 1; head = plain_head 0; bytes = [] })
unfolding act_of record_of has_all is_zero_from bytes_from key_of
full = refl

not_released : (view_of three_setup three_words).release 0 2 ≡ 0
not_released = refl

place_2 : place_of three_setup 0 2 ≡ 2
unfolding key_of
place_2 = refl

-- ---- the states

posts : next_of (start_of_rank three_script 0) ≡ Posts three_message (three_states 0)
unfolding local_next unrolled_items
posts = refl

ended_0 : next_of (three_states 0) ≡ Ends
unfolding local_next unrolled_items
ended_0 = refl

abbrev takes_five : List ℕ → State
takes_five bytes = record { local = gone_on_with (local_start three_script 1) 0 bytes; matched = DataCall.Recv 0 (plain_head 5) bytes ∷ [] }

abbrev refuses : MessageHead → State
refuses sent = record { local = stopped_at (local_start three_script 1) 3 0 (plain_head 5) sent; matched = [] }

asks : next_of (start_of_rank three_script 1) ≡ Recvs 0 (plain_head 5) takes_five refuses
unfolding local_next unrolled_items
asks = refl

ended_1 : next_of (three_states 1) ≡ Ends
unfolding local_next unrolled_items
ended_1 = refl

bars : next_of (start_of_rank three_script 2) ≡ Bars 0 (record { local = gone_on (start_of_rank three_script 2).local; matched = DataCall.Bar 0 ∷ [] })
unfolding local_next unrolled_items
bars = refl

heads_apart : head_of header ≢ plain_head 5
heads_apart is = let len : 0 ≡ 5 = ap (λ (h : MessageHead). h.len) is in absurd (omega (arith, len))

stands : (k : ℕ) → k < 3 → IsStateOfRecord next_of three_setup k (start_of_rank three_script k) (three_records k) (three_states k) (three_lasts k)
stands zero low =
    Running (subst (DidCalls next_of (three_states 0) (Some three_message) (start_of_rank three_script 0) None) (sym calls_0)
    (Left (start_of_rank three_script 0) (three_states 0) None three_message [] posts Here))
stands (suc zero) low =
    Stopped (start_of_rank three_script 1) (subst (DidCalls next_of (start_of_rank three_script 1) None (start_of_rank three_script 1) None) (sym calls_1) Here)
    (record {
      from = 0;
      asked = plain_head 5;
      take = takes_five;
      refuse = refuses;
      header = header;
      peers = refl;
      stands = asks;
      seen = notes_1;
      noted = noted;
      another = heads_apart;
      stopped = refl;
      ends = ended_1;
    })
stands (suc (suc zero)) low = Running (subst (DidCalls next_of (three_states 2) None (start_of_rank three_script 2) None) (sym calls_2) Here)
stands (suc (suc (suc k))) low = absurd (omega (arith, low))

failed : (k : ℕ) → k < 3 → Failed three_setup (view_of three_setup three_words) k (three_records k) (next_of (three_states k))
failed zero low = subst (Failed three_setup (view_of three_setup three_words) 0 (three_records 0)) (sym ended_0) stage_0
failed (suc zero) low = subst (Failed three_setup (view_of three_setup three_words) 1 (three_records 1)) (sym ended_1) stage_1
failed (suc (suc zero)) low = subst (Failed three_setup (view_of three_setup three_words) 2 (three_records 2)) (sym bars)
    (AtMember refl (λ is. absurd (let at : 2 ≡ 0 = sym place_2 ∙ is in omega (arith, at))) stage_2
    (λ is. absurd (let at : 0 ≡ 1 % 2 = sym not_released ∙ is ∙ ap (λ (n : ℕ). n % 2) flips_2 in omega (arith, at))))
failed (suc (suc (suc k))) low = absurd (omega (arith, low))

pub three_swept : IsSwept three_script three_setup three_words three_records three_states three_lasts
three_swept = record { ranks = refl; comms = refl; swept = record { agrees = agrees; stands = stands; failed = failed } }

pub slot_is_full : slots_by three_setup three_records three_lasts 0 ≡ Some three_message
slot_is_full = ap (λ (o : Option Outgoing). keep o (Some three_message)) full
