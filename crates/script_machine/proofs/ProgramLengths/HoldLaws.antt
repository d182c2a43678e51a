-- What the machine of a rank holds has room for what comes, and comes to what the rank comes to.
use Rattle.std.proofs.Common.{◌≡◌, ℕ, true, List, [], length, drop, Option, Some, refl, ap, arith}
use Rattle.script_rules.specs.declared.script.OwnStmt.TheVariants as own
use Rattle.script_machine.specs.declared.held.Held.{Held}
use Rattle.script_machine.specs.declared.prims.Action.{Action}
use Rattle.script_machine.specs.declared.prims.Action.TheVariants as action
use Rattle.script_machine.specs.declared.prims.Standing.{Standing}
use Rattle.script_machine.specs.Holds.{HasRoomFor, local_with, rooms_with, held_after_own}
use Rattle.script_machine.specs.Lengths.{lengths_of}
use Rattle.script_machine.specs.Local.{Local, local_next, next_by_act, next_by_prim, next_prim}
use Rattle.script_machine.specs.Moves.{length_asked, went}
use Rattle.script_machine.specs.Next.{Next, is_going}
use Rattle.script_machine.specs.Next.Next.{Ends, Goes, Posts, Sends, Recvs, Bars}
use Rattle.script_machine.specs.Program.{Prim}
use Rattle.script_machine.specs.Program.Act.{Set, Own, Begin, Accept, Finish}
use Rattle.script_machine.specs.Rooms.{AreWithin}
use Rattle.script_machine.specs.Walk.{WalkView, act_meant, content_of}
use Rattle.script_machine.proofs.ProgramLengths.NextLengths.{after, length_index}
use Rattle.script_machine.proofs.ProgramLengths.RoomLaws.{fits_next, put_fits}

module _ (h : Held) (walk : WalkView) (state : Standing) (line : ℕ) where
  -- the rooms have room for the statement that stands next
  pub room_for : (a : Action) → next_prim (local_with h walk state) ≡ Some (record { line = line; act = act_meant a }) → AreWithin (rooms_with h) (lengths_of (local_with h walk state)) walk.left → HasRoomFor a h
  room_for (action.Set reg content) here within = λ there.
      put_fits (rooms_with h) (local_with h walk state) (record { line = line; act = Set reg (content_of content) }) reg (length (content_of content)) here refl within there
  room_for (action.Own (own.Apply op ty dst src)) here within =
      omega (arith, (fits_next (rooms_with h) (local_with h walk state) (record { line = line; act = Own (own.Apply op ty dst src) }) here within).0, length_index h.registers.registers src)
  room_for (action.Own (own.Print reg form)) here within =
      let fits = (fits_next (rooms_with h) (local_with h walk state) (record { line = line; act = Own (own.Print reg form) }) here within).1 in
      (omega (arith, fits.items), omega (arith, fits.printed, length_index h.registers.registers reg))
  room_for (action.Begin reg) here within =
      omega (arith, (fits_next (rooms_with h) (local_with h walk state) (record { line = line; act = Begin reg }) here within).1.accumulator, length_index h.registers.registers reg)
  room_for (action.Accept reg) here within = λ there.
      put_fits (rooms_with h) (local_with h walk state) (record { line = line; act = Accept reg }) reg (length h.taken.bytes) here refl within there
  room_for (action.Finish reg) here within = λ there.
      put_fits (rooms_with h) (local_with h walk state) (record { line = line; act = Finish reg }) reg (length h.folded.bytes) here refl within there
  room_for _ here within = tt

  -- and it does what the step of the rank says
  pub worked_local : (a : Action) (on : WalkView) → is_going (next_by_act (local_with h walk state) line (act_meant a)) ≡ true → on.left ≡ drop 1 walk.left
      → local_with (held_after_own a h) on state ≡ after (next_by_act (local_with h walk state) line (act_meant a)) [] (local_with h walk state)
  worked_local (action.Send to head source) on going left = absurd (cc)
  worked_local (action.Post to reg) on going left = absurd (cc)
  worked_local (action.Recv from reg head) on going left = absurd (cc)
  worked_local (action.Gather from head sized) on going left = absurd (cc)
  worked_local (action.Bar comm) on going left = absurd (cc)
  worked_local (action.Own (own.Print reg form)) on going left = ap (λ (l : List Prim). record (local_with (held_after_own (action.Own (own.Print reg form)) h) walk state) { left = l }) left
  worked_local a on going left = ap (λ (l : List Prim). record (local_with (held_after_own a h) walk state) { left = l }) left

-- no room is another one
pub worked_rooms : (a : Action) (h : Held) → rooms_with (held_after_own a h) ≡ rooms_with h
worked_rooms (action.Own (own.Print reg form)) h = refl
worked_rooms _ h = refl

-- a statement of the rank alone asks for no bytes
pub none_asked : (n : Next Local) → is_going n ≡ true → 0 ≡ length_asked n
none_asked Ends going = absurd (cc)
none_asked (Goes next) going = refl
none_asked (Posts message next) going = absurd (cc)
none_asked (Sends to head bytes next) going = absurd (cc)
none_asked (Recvs from head take refuse) going = absurd (cc)
none_asked (Bars comm next) going = absurd (cc)

pub after_went : (n : Next Local) (u : Local) → is_going n ≡ true → after n [] u ≡ went n u
after_went Ends u going = absurd (cc)
after_went (Goes next) u going = refl
after_went (Posts message next) u going = absurd (cc)
after_went (Sends to head bytes next) u going = absurd (cc)
after_went (Recvs from head take refuse) u going = absurd (cc)
after_went (Bars comm next) u going = absurd (cc)

-- what stands next, by the primitive there
pub next_here : (u : Local) (prim : Prim) → next_prim u ≡ Some prim → local_next u ≡ next_by_act u prim.line prim.act
unfolding local_next
next_here u prim here = ap (λ (o : Option Prim). next_by_prim u o) here
