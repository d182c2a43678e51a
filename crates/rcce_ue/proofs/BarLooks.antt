-- What the vain look of a barrier tells, by its stage.
use Rattle.std.proofs.Common.{◌≡◌, ◌≢◌, ℕ, suc, ◌+◌, ◌%◌, ◌<◌, Bool, List, Some, slice_get, sym, ap, ◌∙◌, subst, arith}
use Rattle.std.proofs.lemmas.Option.{get_or_from_slice_get}
use Rattle.scc_base.specs.Places.{WordAt}
use Rattle.scc_base.specs.Setups.{SetupView, IsMemberAt, members_of, setup_key, size_of}
use Rattle.scc_base.specs.Communicators.{rule_of}
use Rattle.scc_base.specs.declared.communicators.CommRule.TheVariants.{Absent}
use Rattle.scc_base.proofs.GroupFacts.{member_at_place, place_found}
use Rattle.scc_proto.specs.Like.{Like}
use Rattle.scc_proto.specs.Ports.{Seat}
use Rattle.scc_proto.specs.Stages.{Record}
use Rattle.scc_proto.specs.Views.{View, view_of}
use Rattle.scc_proto.specs.Words.{Memory, word_at}
use Rattle.sync_flags.specs.Flags.{flag_value}
use Rattle.sync_flags.specs.Tries.{Aim, AtWord}
use Rattle.barrier.specs.Flags.{IsParityOf, gather_word, member_at, release_word, value_at}
use Rattle.barrier.specs.Stages as bar
use Rattle.barrier.specs.declared.stages.BarStage.{BarStage}
use Rattle.barrier.specs.declared.stages.BarStage.TheVariants as barrier
use Rattle.barrier.proofs.FlagLoads.{present_is}
use Rattle.chip_run.specs.Waiting.{AtMember, AtRoot, BarWaits}
use Rattle.waiting_laws.specs.Looks.{Tells}
use Rattle.waiting_laws.proofs.Looks.{aimed}

plus_one : (n : ℕ) → n + 1 ≡ suc n
plus_one n = omega arith

-- the member at a place of a group
member_is : (s : SetupView) (comm r i : ℕ) → i < size_of s comm r → IsMemberAt s comm r i (member_at s comm r i)
member_is s comm r i low =
    let (x, below, grouped, placed) = place_found s.nue (setup_key s comm) r i low in
    let here : slice_get (members_of s comm r) i ≡ Some x = ap (slice_get (members_of s comm r)) (sym placed) ∙ member_at_place s.nue (setup_key s comm) r x grouped below in
    subst (IsMemberAt s comm r i) (sym (get_or_from_slice_get (members_of s comm r) i x 0 here)) (record { below = below; grouped = grouped; placed = placed })

-- what a rank waits for whose record is this one, up to looks
module _ (seat : Seat) (memory : Memory) (records : ℕ → Record) (rec : Record) (like : Like rec (records seat.rank)) where
  abbrev s : SetupView
  s = seat.setup

  abbrev me : ℕ
  me = seat.rank

  abbrev view : View
  view = view_of seat.setup memory

  module _ (comm : ℕ) (values : List Bool) (aim : Aim) (tells : Tells memory aim) (below : comm < 16) (present : rule_of s.comms comm ≢ Absent) (parity : IsParityOf rec values) where
    word_told : (place : WordAt) → Some (AtWord place (flag_value (value_at values comm))) ≡ Some aim → word_at memory place ≢ (records me).flips comm % 2
    word_told place is found =
        (aimed memory (AtWord place (flag_value (value_at values comm))) aim is tells) (found ∙ ap (λ (n : ℕ). n % 2) (sym (like.flips comm)) ∙ sym (parity comm below))

    bar_by : (stage : BarStage) → bar.IsAtStage seat rec comm stage → bar.barrier_aim_at seat comm stage (flag_value (value_at values comm)) ≡ Some aim → BarWaits s view me comm (records me)
    bar_by barrier.Flip at is = absurd (cc (is))
    bar_by (barrier.Gather seen) (root, more, stage) is =
        let member = member_is s comm me (seen + 1) more in
        AtRoot seen (member_at s comm me (seen + 1)) (present_is s comm below present) root (sym like.stage ∙ stage) (omega (arith, more)) member.below member.grouped (member.placed ∙ plus_one seen)
        (word_told (gather_word seat comm (member_at s comm me (seen + 1))) is)
    bar_by (barrier.Release released) at is = absurd (cc (is))
    bar_by barrier.Await (apart, stage) is = AtMember (present_is s comm below present) apart (sym like.stage ∙ stage) (word_told (release_word seat comm me) is)
    bar_by barrier.Finished at is = absurd (cc (is))

    -- in a barrier
    pub bar_waits : (stage : BarStage) → bar.IsAtStage seat rec comm stage → bar.barrier_aim_at seat comm stage (flag_value (value_at values comm)) ≡ Some aim → BarWaits s view me comm (records me)
    bar_waits stage at is = bar_by stage at is
