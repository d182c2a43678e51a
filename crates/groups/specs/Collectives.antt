-- Collective calls as steps (RCCE specification 2.0 for what a broadcast, a reduction and a reduction to all
-- give; that they go through the root, in rank order, is this project's profile).
use Rattle.std.specs.Prelude.{◌≢◌, ℕ, ◌<◌, ◌≤◌, ◌==◌, if◌then◌else◌, List, [], ◌∷◌, ◌++◌, map, remove, slice_index}
use Rattle.scc_base.specs.Communicators.{rule_of}
use Rattle.scc_base.specs.Heads.{MessageHead, kind_number, most_message}
use Rattle.scc_base.specs.Setups.{SetupView, members_of, place_of, size_of}
use Rattle.scc_base.specs.declared.communicators.CommRule.TheVariants.{Absent}
use Rattle.scc_base.specs.declared.kinds.Kind.{Kind}
use Rattle.scc_base.specs.declared.kinds.Kind.TheVariants as kind
use Rattle.groups.specs.declared.collectives.Coll.{Coll}
use Rattle.groups.specs.declared.collectives.Coll.TheVariants.{Bcast, Reduce, Allreduce}
use Rattle.groups.specs.declared.collectives.Step.{Step}
use Rattle.groups.specs.declared.collectives.Step.TheVariants.{Begin, Send, Recv, Fold, Accept, Finish}

-- the communicator of a call, and its length in bytes
abbrev pub comm_of : Coll → ℕ
comm_of (Bcast comm root len) = comm
comm_of (Reduce comm root len) = comm
comm_of (Allreduce comm len) = comm

-- the length of a collective call in bytes
abbrev pub len_of : Coll → ℕ
len_of (Bcast comm root len) = len
len_of (Reduce comm root len) = len
len_of (Allreduce comm len) = len

-- the place of the root in its group: the one that the call names, and member 0 where all get the result
abbrev pub root_place : Coll → ℕ
root_place (Bcast comm root len) = root
root_place (Reduce comm root len) = root
root_place (Allreduce comm len) = 0

-- a root that the call names is in the group of rank r
abbrev pub HasRoot : SetupView → ℕ → Coll → Type 0
HasRoot s r (Bcast comm root len) = root < size_of s comm r
HasRoot s r (Reduce comm root len) = root < size_of s comm r
HasRoot s r (Allreduce comm len) = Unit {0}

-- what a call of rank r needs: a communicator that stands, a length that a message may have, a rank of the run,
-- and a root in its group
pub record IsCallable (s : SetupView) (r : ℕ) (c : Coll) : Type 0 where
  pub comm_below : comm_of c < 16
  pub present : rule_of s.comms (comm_of c) ≢ Absent
  pub len_within : len_of c ≤ most_message
  pub rank_below : r < s.nue
  pub root_below : HasRoot s r c

-- the head of a message of the call
abbrev pub head_of_kind : Kind → ℕ → ℕ → MessageHead
head_of_kind kind comm len = record { kind = kind_number kind; comm = comm; len = len }

-- the others: the members of the group of rank r in rank order, without the one at a place
abbrev pub others_of : SetupView → ℕ → ℕ → ℕ → List ℕ
others_of s comm r place = remove (members_of s comm r) place

-- a send to each of the others
abbrev pub send_each : MessageHead → List ℕ → List Step
send_each head others = map (λ to. Send to head) others

-- from each of the others a receive, and then a fold
abbrev pub fold_each : MessageHead → List ℕ → List Step
fold_each head [] = []
fold_each head (from ∷ others) = Recv from head ∷ Fold ∷ fold_each head others

-- the steps of the root, by the others in order
abbrev pub root_steps : Coll → List ℕ → List Step
root_steps (Bcast comm root len) others = send_each (head_of_kind kind.Bcast comm len) others
root_steps (Reduce comm root len) others = Begin ∷ fold_each (head_of_kind kind.Reduce comm len) others ++ Finish ∷ []
root_steps (Allreduce comm len) others =
    Begin ∷ fold_each (head_of_kind kind.AllUp comm len) others ++ send_each (head_of_kind kind.AllDown comm len) others ++ Finish ∷ []

-- the steps of each of the others, by the root's rank
abbrev pub other_steps : Coll → ℕ → List Step
other_steps (Bcast comm place len) root = Recv root (head_of_kind kind.Bcast comm len) ∷ Accept ∷ []
other_steps (Reduce comm place len) root = Send root (head_of_kind kind.Reduce comm len) ∷ []
other_steps (Allreduce comm len) root =
    Send root (head_of_kind kind.AllUp comm len) ∷ Recv root (head_of_kind kind.AllDown comm len) ∷ Accept ∷ []

-- the steps of rank r
abbrev pub steps_of : SetupView → ℕ → Coll → List Step
steps_of s r c =
    if place_of s (comm_of c) r == root_place c
    then root_steps c (others_of s (comm_of c) r (root_place c))
    else other_steps c (slice_index (members_of s (comm_of c) r) (root_place c))
