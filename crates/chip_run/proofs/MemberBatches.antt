-- A stretch that a worker took, its member took, whatever stands beside the worker.
use Rattle.std.proofs.Common.{List}
use Rattle.scc_base.specs.declared.events.Event.{Event}
use Rattle.scc_base.specs.declared.events.Turn.{Turn}
use Rattle.scc_base.specs.declared.events.Turn.TheVariants as turn
use Rattle.scc_proto.specs.Ports.{Sight}
use Rattle.chip_run.specs.declared.members.Member.{Member}
use Rattle.chip_run.specs.Away.{behaviour_of_members}
use Rattle.chip_run.specs.Behaves.{Behaviour}
use Rattle.chip_run.specs.Turns.{TurnsMoved, OneMoved, MoreMoved, TookBatch, OneTurn, InARow}
use Rattle.chip_run.proofs.MemberLaws.{turned_member}

module _ {A : Type 0} (c : Behaviour A) (like : Member A) where
  -- this member with another worker
  abbrev of : A → Member A
  of w = record like { worker = w }

  moved_member : (stepped : List Event → Event → Type 0) (old : A) (s : Sight) (new : A) (t : Sight) → TurnsMoved c stepped old s new t → TurnsMoved (behaviour_of_members c) stepped (of old) s (of new) t
  moved_member stepped old s _ _ (OneMoved new t turned) = OneMoved (of new) t (turned_member c stepped (of old) s (of new) t turn.Moved turned)
  moved_member stepped old s _ _ (MoreMoved mid new m t before turned) =
      MoreMoved (of mid) (of new) m t (moved_member stepped old s mid m before) (turned_member c stepped (of mid) m (of new) t turn.Moved turned)

  pub batched_member : (stepped : List Event → Event → Type 0) (old : A) (s : Sight) (new : A) (t : Sight) (answer : Turn) → TookBatch c stepped old s new t answer
      → TookBatch (behaviour_of_members c) stepped (of old) s (of new) t answer
  batched_member stepped old s new t answer (OneTurn turned) = OneTurn (turned_member c stepped (of old) s (of new) t answer turned)
  batched_member stepped old s new t answer (InARow moved is) = InARow (moved_member stepped old s new t moved) is
