use Rattle.std.proofs.Common.{◌≡◌, ◌∙◌, ◌<◌, ◌≤◌, ℕ, true, refl, sym, arith, slice_index}
use Rattle.std.proofs.lemmas.Bool.{true≢false}
use Rattle.std.proofs.lemmas.Bool.Decides.{nat_tests}
use Rattle.scc_base.specs.Calls.{Bar}
use Rattle.scc_base.specs.Setups.{setup_key}
use Rattle.scc_proto.specs.Legality.{in_group}
use Rattle.rcce_audit.specs.Logs.{IsLogCall, calls_at_rank}
use Rattle.rcce_audit.specs.Views.{data_lists}
use Rattle.rcce_audit.proofs.StepLemmas.{all_get, meet_acts, no_meet, no_meet_root, rank_below}
use Rattle.rcce_audit.proofs.steps.try_meet.Goals as goal
use Rattle.rcce_audit.proofs.steps.try_meet.Goals.{then-place-ne0-via-then-place-ne0, then-place-ne0-via-else-place-ne0+then-not-are_met}

member_below : (nue comm root k : ℕ) (keys : ℕ → ℕ → ℕ) → nue ≤ 48 → in_group nue keys comm root k ≡ true → k < 48
member_below nue comm root k keys ranks member = grind (arith, nat_tests)

pub returns-then-place-ne0 : goal.returns-then-place-ne0
returns-then-place-ne0 c =
    elim c.then-place-ne0.branch [
      | then-place-ne0-via-then-place-ne0 w ↦ (refl, no_meet_root c.args.setup.now (data_lists c.args.lists.now) c.args.comm c.args.rank c.args.progress.now (λ is. w.if-place-ne0.true (c.place.ensures.gives ∙ is)))
      | then-place-ne0-via-else-place-ne0+then-not-are_met w ↦
          (refl, no_meet c.args.setup.now (data_lists c.args.lists.now) c.args.comm c.args.rank c.args.progress.now (λ all. true≢false (sym (w.are_met.ensures.1 all) ∙ w.if-not-are_met.true)))
    ]

pub meet-requires-clause-comm_below : goal.meet-requires-clause-comm_below
meet-requires-clause-comm_below c =
    let s = c.args.setup.now in
    let r : ℕ = c.args.rank in
    (all_get (IsLogCall s.nue s.comms r) (calls_at_rank (data_lists c.args.lists.now) r) (slice_index c.args.progress.now.next r) (Bar c.args.comm) (c.requires.lists.calls r) c.requires.front).0

pub meet-requires-clause-present : goal.meet-requires-clause-present
meet-requires-clause-present c =
    let s = c.args.setup.now in
    let r : ℕ = c.args.rank in
    (all_get (IsLogCall s.nue s.comms r) (calls_at_rank (data_lists c.args.lists.now) r) (slice_index c.args.progress.now.next r) (Bar c.args.comm) (c.requires.lists.calls r) c.requires.front).1

pub returns : goal.returns
returns c =
    let s = c.args.setup.now in
    let lists = data_lists c.args.lists.now in
    let zeroth = sym c.place.ensures.gives ∙ c.if-place-ne0.false in
    meet_acts s lists c.args.comm c.args.rank c.args.progress.now c.meet.new.progress (rank_below s lists c.args.rank _ _ c.requires.lists c.requires.front) zeroth c.requires.lists.ranks_within
    (c.are_met.ensures.0 c.if-not-are_met.false) (λ k member. member_below s.nue c.args.comm c.args.rank k (setup_key s) c.requires.lists.ranks_within member) c.meet.ensures
