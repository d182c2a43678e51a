use Rattle.std.proofs.Common.{◌≡◌, ◌∙◌, ℕ, Some, refl, sym, subst, arith, slice_get, slice_index}
use Rattle.std.proofs.lemmas.Bool.{true≢false}
use Rattle.std.proofs.lemmas.Option.{slice_get_within}
use Rattle.scc_base.specs.Calls.{Recv, Send}
use Rattle.scc_proto.specs.Legality.{Outgoing}
use Rattle.rcce_audit.specs.Logs.{IsLogCall, calls_at_rank}
use Rattle.rcce_audit.specs.Views.{data_lists}
use Rattle.rcce_audit.proofs.StepLemmas.{all_get, no_pair, pair_at}
use Rattle.rcce_audit.proofs.steps.try_pair.Goals as goal

pub returns-then-not-is_receiving : goal.returns-then-not-is_receiving
returns-then-not-is_receiving c =
    let lists = data_lists c.args.lists.now in
    let m : Outgoing = record { to = c.args.to; head = c.args.head; bytes = c.args.bytes.now } in (
      refl,
      no_pair c.args.setup.now lists c.args.rank m c.args.progress.now
          (λ is. true≢false (sym (c.is_receiving.ensures.1 (subst (λ (n : ℕ). slice_get (calls_at_rank lists n) (slice_index c.args.progress.now.next n) ≡ Some (Recv c.args.rank c.args.head c.args.bytes.now)) (sym c.number-receiver.ensures.gives) is)) ∙ c.if-not-is_receiving.true)),
    )

pub advance-requires-clause-left : goal.advance-requires-clause-left
advance-requires-clause-left c =
    let lists = data_lists c.args.lists.now in
    slice_get_within (calls_at_rank lists c.number-sender.result) (slice_index c.args.progress.now.next c.number-sender.result) (Send c.args.to c.args.head c.args.bytes.now)
    (subst (λ (n : ℕ). slice_get (calls_at_rank lists n) (slice_index c.args.progress.now.next n) ≡ Some (Send c.args.to c.args.head c.args.bytes.now)) (sym c.number-sender.ensures.gives) c.requires.front)

pub advance-requires-2-clause-left : goal.advance-requires-2-clause-left
advance-requires-2-clause-left c =
    let s = c.args.setup.now in
    let lists = data_lists c.args.lists.now in
    let r : ℕ = c.args.rank in
    let valid = all_get (IsLogCall s.nue s.comms r) (calls_at_rank lists r) (slice_index c.args.progress.now.next r) (Send c.args.to c.args.head c.args.bytes.now) (c.requires.lists.calls r) c.requires.front in
    let apart : c.number-receiver.result ≡ c.number-sender.result → ⊥ = λ is. valid.other (sym c.number-receiver.ensures.gives ∙ is ∙ c.number-sender.ensures.gives) in
    let within = slice_get_within (calls_at_rank lists c.number-receiver.result) (slice_index c.args.progress.now.next c.number-receiver.result) (Recv c.args.rank c.args.head c.args.bytes.now) (c.is_receiving.ensures.0 c.if-not-is_receiving.false) in
    omega (arith, within, c.advance.ensures.others c.number-receiver.result apart)

pub returns : goal.returns
returns c =
    let s = c.args.setup.now in
    let lists = data_lists c.args.lists.now in
    let r : ℕ = c.args.rank in
    let m : Outgoing = record { to = c.args.to; head = c.args.head; bytes = c.args.bytes.now } in
    let valid = all_get (IsLogCall s.nue s.comms r) (calls_at_rank lists r) (slice_index c.args.progress.now.next r) (Send c.args.to c.args.head c.args.bytes.now) (c.requires.lists.calls r) c.requires.front in
    pair_at s lists r c.number-sender.result c.number-receiver.result m c.args.progress.now c.advance.new.progress c.advance-2.new.progress c.number-sender.ensures.gives c.number-receiver.ensures.gives valid.other c.requires.front
    (c.is_receiving.ensures.0 c.if-not-is_receiving.false) (c.is_slot_empty.ensures.0 c.if-not-is_slot_empty.false) c.advance.ensures c.advance-2.ensures
