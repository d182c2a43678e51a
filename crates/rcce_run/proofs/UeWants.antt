-- What a UE wants, against what stands next at its rank.
use Rattle.std.proofs.Common.{◌≡◌, ℕ, false, List, Option, Some, None, refl}
use Rattle.scc_base.specs.Calls.{DataCall}
use Rattle.scc_base.specs.Setups.{SetupView}
use Rattle.scc_proto.specs.Stages.{Record}
use Rattle.scc_proto.specs.Views.{View}
use Rattle.script_machine.specs.Local.{Local}
use Rattle.plain_meaning.specs.Meaning.{next_with_calls}
use Rattle.script_machine.specs.Next.{Next, is_going}
use Rattle.script_machine.specs.Next.Next.{Ends, Goes, Posts, Sends, Recvs, Bars}
use Rattle.chip_run.specs.Waiting.{SlotWaits, Waits}
use Rattle.chip_run.specs.Wants.{Want}
use Rattle.rcce_run.specs.Sweep.{Failed}
use Rattle.rcce_ue.specs.Workers.{want_at_end, want_next}

-- a rank that wants nothing has nothing left
pub nothing_ends : (at_end : Want) (n : Next Local) → want_next at_end n ≡ Want.Nothing → n ≡ Ends
nothing_ends at_end Ends is = refl
nothing_ends at_end (Goes after) is = absurd (cc (is))
nothing_ends at_end (Posts message after) is = absurd (cc (is))
nothing_ends at_end (Sends to head bytes after) is = absurd (cc (is))
nothing_ends at_end (Recvs from head take refuse) is = absurd (cc (is))
nothing_ends at_end (Bars comm after) is = absurd (cc (is))

-- at its end it waits for no slot
pub none_awaited : (slot : Option ℕ) (n : Next Local) → n ≡ Ends → want_next (want_at_end slot) n ≡ Want.Nothing → slot ≡ None
none_awaited None n ends is = refl
none_awaited (Some to) Ends ends is = absurd (cc (is))
none_awaited (Some to) (Goes after) ends is = absurd (cc (ends))
none_awaited (Some to) (Posts message after) ends is = absurd (cc (ends))
none_awaited (Some to) (Sends j head bytes after) ends is = absurd (cc (ends))
none_awaited (Some to) (Recvs from head take refuse) ends is = absurd (cc (ends))
none_awaited (Some to) (Bars comm after) ends is = absurd (cc (ends))

module _ (s : SetupView) (view : View) (me : ℕ) (rec : Record) where
  at_end_slot : (slot : Option ℕ) → Waits s view me rec (want_at_end slot) → SlotWaits view me rec
  at_end_slot None waits = absurd waits
  at_end_slot (Some to) waits = waits

  -- a UE that waits waits by what stands next at its rank
  pub waits_failed : (calls : List DataCall) (slot : Option ℕ) (n : Next Local) → Waits s view me rec (want_next (want_at_end slot) n) → Failed s view me rec (next_with_calls calls n)
  waits_failed calls slot Ends waits = (at_end_slot slot waits).stage
  waits_failed calls slot (Goes after) waits = waits
  waits_failed calls slot (Posts message after) waits = waits
  waits_failed calls slot (Sends to head bytes after) waits = waits
  waits_failed calls slot (Recvs from head take refuse) waits = waits
  waits_failed calls slot (Bars comm after) waits = waits

  -- at no statement of its own
  pub waits_pauses : (slot : Option ℕ) (n : Next Local) → Waits s view me rec (want_next (want_at_end slot) n) → is_going n ≡ false
  waits_pauses slot Ends waits = refl
  waits_pauses slot (Goes after) waits = absurd waits
  waits_pauses slot (Posts message after) waits = refl
  waits_pauses slot (Sends to head bytes after) waits = refl
  waits_pauses slot (Recvs from head take refuse) waits = refl
  waits_pauses slot (Bars comm after) waits = refl

  -- at its end for its slot
  pub waits_at_end : (slot : Option ℕ) (n : Next Local) → n ≡ Ends → Waits s view me rec (want_next (want_at_end slot) n) → SlotWaits view me rec
  waits_at_end slot Ends ends waits = at_end_slot slot waits
  waits_at_end slot (Goes after) ends waits = absurd (cc (ends))
  waits_at_end slot (Posts message after) ends waits = absurd (cc (ends))
  waits_at_end slot (Sends to head bytes after) ends waits = absurd (cc (ends))
  waits_at_end slot (Recvs from head take refuse) ends waits = absurd (cc (ends))
  waits_at_end slot (Bars comm after) ends waits = absurd (cc (ends))
