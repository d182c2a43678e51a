-- Each call that a rank of a script which was read comes to by itself can be made.
use Rattle.std.proofs.Common.{◌≡◌, ℕ, zero, suc, ◌<◌, ◌≤◌, List, [], length, Option, replicate, subst, arith}
use Rattle.std.specs.Prelude.{slice_index_or}
use Rattle.scc_base.specs.Calls.{DataCall}
use Rattle.script_rules.specs.Script.{Script}
use Rattle.script_rules.specs.Settled.{IsWholeScript}
use Rattle.script_machine.specs.declared.posts.Posted.{Posted}
use Rattle.plain_meaning.specs.Collectives.{start_of_rank}
use Rattle.script_machine.specs.Local.{Local, local_next}
use Rattle.plain_meaning.specs.Meaning.{State, next_of, next_with_calls}
use Rattle.script_machine.specs.Next.{Next}
use Rattle.script_machine.specs.Next.Next.{Ends, Goes, Posts, Sends, Recvs, Bars}
use Rattle.plain_meaning.specs.Paths.{Came}
use Rattle.plain_meaning.specs.Paths.Came.{Began, Went, Leaves, Passed, Took, Joined}
use Rattle.plain_meaning.specs.Ready.{CanMakeNext}
use Rattle.script_machine.proofs.ProgramLengths.AimLemmas.{program_aimed}
use Rattle.plain_meaning.specs.Kept.{reckoned_at}
use Rattle.plain_meaning.proofs.ProgramLengths.LengthLaws.{sound_started}
use Rattle.plain_meaning.specs.Kept.{FitsNext}
use Rattle.plain_meaning.proofs.ProgramLengths.LengthPaths.{IsSound, SoundNext, fits_next, sound_next}
use Rattle.script_machine.proofs.ProgramLengths.SaneLemmas.{IsSane, SaneNext, sane_next}

-- at the start no register has bytes
unset : (n reg : ℕ) → length (slice_index_or {A = List ℕ} (replicate n []) reg []) ≤ 65536
unset zero reg = omega arith
unset (suc n) zero = omega arith
unset (suc n) (suc reg) = unset n reg

module _ (script : Script) (rank : ℕ) where
  recorded_sane : (calls : List DataCall) (n : Next Local) → SaneNext script rank (λ (v : Local). v) n → SaneNext script rank (λ (v : State). v.local) (next_with_calls calls n)
  recorded_sane calls Ends sane = tt
  recorded_sane calls (Goes after) sane = sane
  recorded_sane calls (Posts message after) sane = sane
  recorded_sane calls (Sends to head bytes after) sane = sane
  recorded_sane calls (Recvs from head take refuse) sane = sane
  recorded_sane calls (Bars comm after) sane = sane

  ready_by : (had : ℕ → Option ℕ) (n : Next Local) → SaneNext script rank (λ (v : Local). v) n → FitsNext had n → CanMakeNext script rank n
  ready_by had Ends sane fits = tt
  ready_by had (Goes after) sane fits = tt
  ready_by had (Posts message after) sane fits = (sane.1, sane.2, fits.1)
  ready_by had (Sends to head bytes after) sane fits = (sane.1, sane.2, sane.3)
  ready_by had (Recvs from head take refuse) sane fits = (sane.1, sane.2)
  ready_by had (Bars comm after) sane fits = (sane.1, sane.2)

  module _ (whole : IsWholeScript script.nue script.items) (within : rank < script.nue) where
    sane_started : IsSane script rank (start_of_rank script rank).local
    sane_started = record { registers = unset (length script.names); accumulator = omega arith; received = omega arith; left = program_aimed script rank whole within }

    sane_after : (u : State) (n : Next State) → IsSane script rank u.local → next_of u ≡ n → SaneNext script rank (λ (v : State). v.local) n
    sane_after u n sane is = subst (SaneNext script rank (λ (v : State). v.local)) is (recorded_sane u.matched (local_next u.local) (sane_next script rank u.local sane))

    pub came_sane : (u : State) (last : Option Posted) → Came next_of (start_of_rank script rank) u last → IsSane script rank u.local
    came_sane u last Began = sane_started
    came_sane w end (Went u v last came is) = sane_after u (Goes v) (came_sane u last came) is
    came_sane w end (Leaves u v last message came is) = (sane_after u (Posts message v) (came_sane u last came) is).0
    came_sane w end (Passed u v last to head bytes came is) = (sane_after u (Sends to head bytes v) (came_sane u last came) is).0
    came_sane w end (Took u last from head bytes take refuse even came is) = (sane_after u (Recvs from head take refuse) (came_sane u last came) is).0 bytes even
    came_sane w end (Joined u v last comm came is) = (sane_after u (Bars comm v) (came_sane u last came) is).0

    abbrev Sound : State → Type 0
    Sound u = IsSound (reckoned_at script rank) u

    sound_after : (u : State) (n : Next State) → Sound u → next_of u ≡ n → SoundNext (reckoned_at script rank) n
    sound_after u n sound is = subst (SoundNext (reckoned_at script rank)) is (sound_next (reckoned_at script rank) u sound)

    -- the registers of a rank have the lengths that the reader reckoned, wherever it comes by itself
    pub came_sound : (u : State) (last : Option Posted) → Came next_of (start_of_rank script rank) u last → Sound u
    came_sound u last Began = sound_started script rank whole within
    came_sound w end (Went u v last came is) = sound_after u (Goes v) (came_sound u last came) is
    came_sound w end (Leaves u v last message came is) = (sound_after u (Posts message v) (came_sound u last came) is).0
    came_sound w end (Passed u v last to head bytes came is) = (sound_after u (Sends to head bytes v) (came_sound u last came) is).0
    came_sound w end (Took u last from head bytes take refuse even came is) = (sound_after u (Recvs from head take refuse) (came_sound u last came) is).0 bytes even
    came_sound w end (Joined u v last comm came is) = sound_after u (Bars comm v) (came_sound u last came) is

    pub ready-law : (u : State) (last : Option Posted) → Came next_of (start_of_rank script rank) u last → CanMakeNext script rank (local_next u.local)
    ready-law u last came =
        ready_by (reckoned_at script rank) (local_next u.local) (sane_next script rank u.local (came_sane u last came))
        (fits_next (reckoned_at script rank) u.local (came_sound u last came).fits)
