-- How far an audit has used up the lists of a log.
use Rattle.std.specs.Prelude.{◌≡◌, ℕ, zero, suc, ◌+◌, ◌<◌, ◌≤◌, Bool, true, false, List, [], ◌∷◌, All, drop, length, slice_get, slice_index, slice_index_or, Option, Some, None, option_and_then}
use Rattle.scc_base.specs.Calls.{DataCall, Send, Recv, Post, Bar}
use Rattle.scc_base.specs.Groups.{root_in}
use Rattle.scc_base.specs.Runs.{Runs}
use Rattle.scc_base.specs.Setups.{SetupView, setup_key}
use Rattle.scc_proto.specs.Legality.{Outgoing, Standing, CallStep, callers, owner_of, looks_at_slot, slot_after, Makes, OwnStep}
use Rattle.rcce_audit.specs.declared.progress.Progress.{Progress}
use Rattle.rcce_audit.specs.Logs.{IsLogCall, calls_at_rank}

-- lists that an audit can go through
pub record AreLists (s : SetupView) (lists : List (List DataCall)) : Type 0 where
  pub ranks : length lists ≡ 48
  pub ranks_within : s.nue ≤ 48
  pub few : (r : ℕ) → length (calls_at_rank lists r) < 4294967295
  pub no_others : (r : ℕ) → s.nue ≤ r → calls_at_rank lists r ≡ []
  pub calls : (r : ℕ) → All (IsLogCall s.nue s.comms r) (calls_at_rank lists r)

-- the message of a post
abbrev pub outgoing_of : DataCall → Option Outgoing
outgoing_of (Send to head bytes) = None
outgoing_of (Recv from head bytes) = None
outgoing_of (Post to head bytes) = Some (record { to = to; head = head; bytes = bytes })
outgoing_of (Bar comm) = None

-- the message of the call at a place, if it is a post
abbrev pub outgoing_at : List DataCall → ℕ → Option Outgoing
outgoing_at calls i = option_and_then outgoing_of (slice_get calls i)

-- the calls of rank k that are left
abbrev pub calls_left : List (List DataCall) → List ℕ → ℕ → List DataCall
calls_left lists next k = drop (slice_index next k) (calls_at_rank lists k)

-- the posted message in the slot of rank k, if there is one
abbrev pub slot_of_lists : List (List DataCall) → List (Option ℕ) → ℕ → Option Outgoing
slot_of_lists lists posted k = option_and_then (outgoing_at (calls_at_rank lists k)) (slice_index_or posted k None)

-- the calls that are left, and the posted messages in the slots
abbrev pub standing_of : List (List DataCall) → Progress → Standing
standing_of lists p = record { calls = calls_left lists p.next; slots = slot_of_lists lists p.posted }

-- a rank was looked at and had no step, and nothing has changed since that could give it one
abbrev pub Sleeps : Progress → ℕ → Type 0
Sleeps p b = slice_index_or p.awake b false ≡ false

-- a rank that sleeps has no step
abbrev pub IsQuiet : SetupView → List (List DataCall) → Progress → Type 0
IsQuiet s lists p = (b : ℕ) → Sleeps p b → (t : Standing) → OwnStep s.nue (setup_key s) b (standing_of lists p) t → ⊥

-- the rank, besides the caller, that a caller's first call may give a step
abbrev pub partner_of : (ℕ → ℕ → ℕ) → ℕ → List DataCall → ℕ
partner_of keys k [] = k
partner_of keys k (Send to head bytes ∷ calls) = k
partner_of keys k (Recv from head bytes ∷ calls) = from
partner_of keys k (Post to head bytes ∷ calls) = k
partner_of keys k (Bar comm ∷ calls) = root_in (keys comm) k

-- one rank's list is used up by one call more, and who may have a step by its next one is awake
pub record Advances (s : SetupView) (lists : List (List DataCall)) (k : ℕ) (old new : Progress) : Type 0 where
  pub own : slice_index new.next k ≡ slice_index old.next k + 1
  pub others : (j : ℕ) → (j ≡ k → ⊥) → slice_index new.next j ≡ slice_index old.next j
  pub posted : new.posted ≡ old.posted
  pub kept : (b : ℕ) → Sleeps new b → Sleeps old b
  pub caller : Sleeps new k → ⊥
  pub partner : Sleeps new (partner_of (setup_key s) k (calls_left lists new.next k)) → ⊥

-- a step is made, and all are awake to whom it may give a step
pub record Acts (s : SetupView) (lists : List (List DataCall)) (step : CallStep) (old new : Progress) : Type 0 where
  pub makes : Makes s.nue (setup_key s) step (standing_of lists old) (standing_of lists new)
  pub kept : (b : ℕ) → Sleeps new b → Sleeps old b
  pub woken_callers : (k : ℕ) → callers s.nue (setup_key s) step k ≡ true → Sleeps new k → ⊥
  pub woken_partners : (k : ℕ) → callers s.nue (setup_key s) step k ≡ true
      → Sleeps new (partner_of (setup_key s) k (calls_left lists new.next k)) → ⊥
  pub woken_slot : (k : ℕ) → looks_at_slot step k ≡ true → Sleeps new k → ⊥
  pub woken_taker : (m : Outgoing) → slot_after step ≡ Some m → Sleeps new m.to → ⊥

-- a step is tried: it is made, or it cannot be made
abbrev pub Tries : SetupView → List (List DataCall) → CallStep → Progress → Progress → Bool → Type 0
Tries s lists step old new true = Acts s lists step old new
Tries s lists step old new false = (new ≡ old) × ((t : Standing) → Makes s.nue (setup_key s) step (standing_of lists old) t → ⊥)

-- the step of a rank's first call left is tried: it is made, or the rank has no step
abbrev pub TriesFirst : SetupView → List (List DataCall) → ℕ → Progress → Progress → Bool → Type 0
TriesFirst s lists a old new true = (step : CallStep) × (owner_of step ≡ a) × Acts s lists step old new
TriesFirst s lists a old new false = (new ≡ old) × ((t : Standing) → OwnStep s.nue (setup_key s) a (standing_of lists old) t → ⊥)

-- of the ranks below a number, those of a group advance
pub record Meets (s : SetupView) (lists : List (List DataCall)) (group : ℕ → Bool) (n : ℕ) (old new : Progress) : Type 0 where
  pub own : (k : ℕ) → k < n → group k ≡ true → slice_index new.next k ≡ slice_index old.next k + 1
  pub others : (k : ℕ) → group k ≡ false → slice_index new.next k ≡ slice_index old.next k
  pub later : (k : ℕ) → n ≤ k → slice_index new.next k ≡ slice_index old.next k
  pub posted : new.posted ≡ old.posted
  pub kept : (b : ℕ) → Sleeps new b → Sleeps old b
  pub callers : (k : ℕ) → k < n → group k ≡ true → Sleeps new k → ⊥
  pub partners : (k : ℕ) → k < n → group k ≡ true → Sleeps new (partner_of (setup_key s) k (calls_left lists new.next k)) → ⊥

-- some steps lead from one standing to another
abbrev pub Leads : SetupView → Standing → Standing → Type 0
Leads s old new = (n : ℕ) × Runs (OwnStep s.nue (setup_key s)) (λ x. x ≡ new) n old

-- how many calls are left to the ranks below a number
abbrev pub count_left : Standing → ℕ → ℕ
count_left s zero = 0
count_left s (suc n) = count_left s n + length (s.calls n)

-- what a visit of a rank does: a step of the rank, or the rank falls asleep
abbrev pub VisitDoes : SetupView → List (List DataCall) → ℕ → Progress → Progress → Bool → Type 0
VisitDoes s lists a old new true = OwnStep s.nue (setup_key s) a (standing_of lists old) (standing_of lists new)
VisitDoes s lists a old new false = (standing_of lists new ≡ standing_of lists old) × Sleeps new a × ((b : ℕ) → Sleeps old b → Sleeps new b)

-- what a sweep over the ranks does: some steps, or all ranks fall asleep
abbrev pub SweepDoes : List (List DataCall) → Progress → Progress → Bool → Type 0
SweepDoes lists old new true = count_left (standing_of lists new) 48 < count_left (standing_of lists old) 48
SweepDoes lists old new false = (standing_of lists new ≡ standing_of lists old) × ((b : ℕ) → b < 48 → Sleeps new b)
