-- Nothing stands next at a rank that a mismatch stopped, and a rank that refuses a message is stopped.
use Rattle.std.proofs.Common.{◌≡◌, ℕ, true, List, Option, Some, None, refl, subst}
use Rattle.scc_base.specs.Heads.{MessageHead}
use Rattle.script_machine.specs.declared.prims.Standing.{Standing}
use Rattle.script_machine.specs.declared.prims.Standing.TheVariants as standing
use Rattle.script_machine.specs.Local.{Local, local_next, next_by_act, next_by_prim, prim_by_standing}
use Rattle.script_machine.specs.Moves.{is_stopped, is_stopped_by}
use Rattle.script_machine.specs.Next.{Next}
use Rattle.script_machine.specs.Next.Next.{Ends, Recvs}
use Rattle.script_machine.specs.Program.{Act, Prim}

-- nothing stands next at a rank that a mismatch stopped
stopped_by : (u : Local) (s : Standing) → is_stopped_by s ≡ true → next_by_prim u (prim_by_standing s u.left) ≡ Ends
stopped_by u standing.Running is = absurd (cc)
stopped_by u (standing.Mismatched line from sent asked) is = refl

pub stopped_ends : (u : Local) → is_stopped u ≡ true → local_next u ≡ Ends
unfolding local_next
stopped_ends u is = stopped_by u u.standing is

-- a rank that refuses a message is stopped
abbrev pub StopsAt : Next Local → Type 0
StopsAt (Recvs from head take refuse) = (sent : MessageHead) → is_stopped (refuse sent) ≡ true
StopsAt _ = Unit {0}

stops_act : (u : Local) (line : ℕ) (a : Act) → StopsAt (next_by_act u line a)
stops_act u line (Act.Recv from reg head) = λ sent. refl
stops_act u line (Act.Gather from head sized) = λ sent. refl
stops_act u line _ = tt

stops_prim : (u : Local) (o : Option Prim) → StopsAt (next_by_prim u o)
stops_prim u None = tt
stops_prim u (Some prim) = stops_act u prim.line prim.act

pub stops_next : (u : Local) → StopsAt (local_next u)
unfolding local_next
stops_next u = stops_prim u (prim_by_standing u.standing u.left)

pub refused_stops : (u : Local) (from : ℕ) (head sent : MessageHead) (take : List ℕ → Local) (refuse : MessageHead → Local) → local_next u ≡ Recvs from head take refuse → is_stopped (refuse sent) ≡ true
refused_stops u from head sent take refuse is = (subst StopsAt is (stops_next u)) sent
