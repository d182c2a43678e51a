-- What collective calls guarantee (RCCE specification 2.0: RCCE_bcast, RCCE_reduce, RCCE_allreduce; the order of a fold is
-- this project's profile). A rank's calls of one kind, communicator and root are counted by their messages: each is one
-- message between the root and each of the others.
use Rattle.std.specs.Prelude.{◌≡◌, ◌≢◌, ℕ, ◌<◌, ◌≤◌, true, List, [], ◌∷◌, ◌++◌, length, map, Some, slice_get, slice_set}
use Rattle.std.specs.List.{filter}
use Rattle.scc_base.specs.Heads.{kind_number}
use Rattle.scc_base.specs.Setups.{SetupView, IsMemberAt, place_of}
use Rattle.scc_base.specs.declared.kinds.Kind.{Kind}
use Rattle.scc_base.specs.declared.kinds.Kind.TheVariants as kind
use Rattle.groups.specs.Collectives.{others_of}
use Rattle.groups.specs.Folds.{fold_of}
use Rattle.groups.specs.declared.operations.Op.{Op}
use Rattle.groups.specs.declared.operations.Ty.{Ty}
use Rattle.script_machine.specs.declared.prims.Standing.TheVariants as standing
use Rattle.script_rules.specs.Script.{Script, has_rank}
use Rattle.script_rules.specs.declared.script.Item.{Item}
use Rattle.script_rules.specs.declared.script.Stmt.{Stmt}
use Rattle.script_rules.specs.declared.script.Stmt.TheVariants as stmt
use Rattle.script_machine.specs.Local.{local_start, register_at}
use Rattle.plain_meaning.specs.Meaning.{State, next_of}
use Rattle.plain_meaning.specs.Messages.{AreReceivedAsSent, is_of, received_from, sent_to}
use Rattle.script_machine.specs.Next.{Next}
use Rattle.script_machine.specs.Next.Next.{Ends, Goes, Posts, Sends, Recvs, Bars}
use Rattle.script_machine.specs.Program.{Prim, acts_of, program_of, setup_of}
use Rattle.plain_meaning.specs.Step.{Configuration}

-- a rank after its next step by itself; if that is a receive, it takes these bytes
abbrev pub gone_by : List ℕ → State → Next State → State
gone_by bytes u Ends = u
gone_by bytes u (Goes after) = after
gone_by bytes u (Posts message after) = after
gone_by bytes u (Sends to head sent after) = after
gone_by bytes u (Recvs from head take refuse) = take bytes
gone_by bytes u (Bars comm after) = after

-- a rank after as many steps by itself as there are lists of bytes; a step that is a receive takes its list
abbrev pub gone_through : List (List ℕ) → State → State
gone_through [] u = u
gone_through (bytes ∷ more) u = gone_through more (gone_by bytes u (next_of u))

-- a rank where it starts
abbrev pub start_of_rank : Script → ℕ → State
start_of_rank script rank = record { local = local_start script rank; matched = [] }

-- the calls that each rank has done are those that its program makes from the start, given the bytes that it received
abbrev pub AreOwnWays : Script → Configuration State → Type 0
AreOwnWays script c =
    (rank : ℕ) (u : State) → slice_get c.cells rank ≡ Some u
    → (path : List (List ℕ)) × (u.matched ≡ (gone_through path (start_of_rank script rank)).matched)

-- an item of the script that is one of this rank's
pub record IsOfRank (items : List Item) (rank : ℕ) (item : Item) : Type 0 where
  pub place : ℕ
  pub listed : slice_get items place ≡ Some item
  pub own : has_rank item.who rank ≡ true

-- what an item makes for one of its ranks
abbrev pub made_by : SetupView → ℕ → Item → List Prim
made_by s rank item = map (λ act. record { line = item.line; act = act }) (acts_of s rank item.stmt)

-- primitives that a rank's items make, one item after another
pub data MadeByItems (s : SetupView) (rank : ℕ) (items : List Item) : List Prim → Type 0 where
  Done : MadeByItems s rank items []
  Then : (item : Item) → IsOfRank items rank item → (rest : List Prim) → MadeByItems s rank items rest
      → MadeByItems s rank items (made_by s rank item ++ rest)

-- a rank is at the beginning of one of its statements: its program leads there from the start, and what the statement makes
-- comes next, followed by what others of its statements make
pub record StandsAtStatement (script : Script) (rank : ℕ) (statement : Stmt) (u : State) : Type 0 where
  pub way : List (List ℕ)
  pub reached : u ≡ gone_through way (start_of_rank script rank)
  pub item : Item
  pub listed : IsOfRank script.items rank item
  pub says : item.stmt ≡ statement
  pub rest : List Prim
  pub afterwards : MadeByItems (setup_of script) rank script.items rest
  pub running : u.local.standing ≡ standing.Running
  pub next : u.local.left ≡ map (λ act. record { line = item.line; act = act }) (acts_of (setup_of script) rank statement) ++ rest

-- a rank that holds `now` has come to a statement: it was at it when it held `before`, and its calls since then are those of a
-- path from there
pub record CameTo (script : Script) (rank : ℕ) (statement : Stmt) (now before : State) : Type 0 where
  pub stood : StandsAtStatement script rank statement before
  pub later : List (List ℕ)
  pub since : now.matched ≡ (gone_through later before).matched

-- a rank that holds `now` has done the calls of a statement. It was at the statement when it held `before`, its program leads
-- from there to `after`, after all that the statement makes, and its calls since then are those of a path from `after`. (Local
-- steps that end the statement may still come: `now` determines only the calls.)
pub record HasDone (script : Script) (rank : ℕ) (statement : Stmt) (now before after : State) : Type 0 where
  pub stood : StandsAtStatement script rank statement before
  pub taken : List (List ℕ)
  pub each : length taken ≡ length (acts_of (setup_of script) rank statement)
  pub came : after ≡ gone_through taken before
  pub later : List (List ℕ)
  pub since : now.matched ≡ (gone_through later after).matched

-- the program of a rank has one of its statements before these primitives, which others of its statements make
pub record HasStatement (script : Script) (rank : ℕ) (statement : Stmt) (rest : List Prim) : Type 0 where
  pub item : Item
  pub listed : IsOfRank script.items rank item
  pub says : item.stmt ≡ statement
  pub front : List Prim
  pub afterwards : MadeByItems (setup_of script) rank script.items rest
  pub whole : program_of script rank ≡ front ++ (made_by (setup_of script) rank item ++ rest)

-- a statement of which a rank has no primitive left is done: what is left now is what was to come after it
abbrev pub AreDone : Script → Configuration State → Type 0
AreDone script c =
    (rank : ℕ) (statement : Stmt) (rest : List Prim) (u : State)
    → slice_get c.cells rank ≡ Some u
    → HasStatement script rank statement rest → length u.local.left ≤ length rest
    → (before : State) × (after : State) × HasDone script rank statement u before after × (after.local.left ≡ rest)

-- how many messages of a kind in a communicator a rank has sent to another
abbrev pub sends_of : Kind → ℕ → ℕ → State → ℕ
sends_of kind comm to u = length (filter (is_of (kind_number kind) comm) (sent_to to u.matched))

-- how many messages of a kind in a communicator a rank has received from another
abbrev pub receipts_of : Kind → ℕ → ℕ → State → ℕ
receipts_of kind comm from u = length (filter (is_of (kind_number kind) comm) (received_from from u.matched))

-- the root is at this place in the group of a rank, which is another one
pub record IsOther (s : SetupView) (comm place root rank : ℕ) : Type 0 where
  pub placed : IsMemberAt s comm rank place root
  pub below : rank < s.nue
  pub apart : rank ≢ root

-- the n-th broadcast of a communicator and root: each of the others that has done it holds the bytes that the root sent in the
-- register that it names, and its other registers are unchanged
abbrev pub AreBroadcast : Script → Configuration State → Type 0
AreBroadcast script c =
    (comm place len size reg dst root rank : ℕ) (u v begun before after : State)
    → slice_get c.cells root ≡ Some u → slice_get c.cells rank ≡ Some v
    → IsOther (setup_of script) comm place root rank
    → CameTo script root (stmt.Bcast comm place reg len) u begun
    → HasDone script rank (stmt.Bcast comm place dst size) v before after
    → sends_of kind.Bcast comm rank begun ≡ receipts_of kind.Bcast comm root before
    → after.local.registers ≡ slice_set before.local.registers dst (register_at begun.local reg)

-- the root came to the same broadcast as a rank that held `before`, and sent it these bytes. Eight parameters: the script and
-- the configuration of its run, which broadcast it is (the communicator, the root's place in the group and its rank), and of
-- the other its rank, its state and its bytes.
pub record Casts (script : Script) (c : Configuration State) (comm place root rank : ℕ) (before : State) (bytes : List ℕ) : Type 0 where
  pub reg : ℕ
  pub len : ℕ
  pub now : State
  pub begun : State
  pub there : slice_get c.cells root ≡ Some now
  pub came : CameTo script root (stmt.Bcast comm place reg len) now begun
  pub same : sends_of kind.Bcast comm rank begun ≡ receipts_of kind.Bcast comm root before
  pub given : register_at begun.local reg ≡ bytes

-- if one of the others has done the n-th broadcast of a communicator and root, the root came to its n-th, and what it sent
-- then is in the register that the other names
abbrev pub RootCame : Script → Configuration State → Type 0
RootCame script c =
    (comm place size dst root rank : ℕ) (v before after : State)
    → slice_get c.cells rank ≡ Some v
    → IsOther (setup_of script) comm place root rank
    → HasDone script rank (stmt.Bcast comm place dst size) v before after
    → (bytes : List ℕ) × Casts script c comm place root rank before bytes
    × (after.local.registers ≡ slice_set before.local.registers dst bytes)

-- one of the others came to its part in the fold that the root began when it held `begun`, with these bytes. Nine parameters:
-- the script and the configuration of its run, which fold it is (its statement, the kind of its messages, the communicator,
-- the root, the root's state when it began), and of the other its rank and its bytes.
pub record GivesPart (script : Script) (c : Configuration State) (call : Op → Ty → ℕ → ℕ → Stmt) (kind : Kind) (comm root : ℕ)
    (begun : State) (rank : ℕ) (bytes : List ℕ) : Type 0 where
  pub op : Op
  pub ty : Ty
  pub dst : ℕ
  pub src : ℕ
  pub now : State
  pub before : State
  pub there : slice_get c.cells rank ≡ Some now
  pub came : CameTo script rank (call op ty dst src) now before
  pub same : sends_of kind comm root before ≡ receipts_of kind comm rank begun
  pub given : register_at before.local src ≡ bytes

-- each of the others came to its part in the root's fold, with these bytes by rank. Nine parameters: those of `GivesPart` with
-- the root's place in the group, by which the others are known, instead of the one rank.
abbrev pub AllGive : Script → Configuration State → (Op → Ty → ℕ → ℕ → Stmt) → Kind → ℕ → ℕ → ℕ → State → (ℕ → List ℕ) → Type 0
AllGive script c call kind comm place root begun bytes =
    (rank : ℕ) → IsOther (setup_of script) comm place root rank → GivesPart script c call kind comm root begun rank (bytes rank)

-- the fold of a rank's own bytes with those of others, in the order in which they are named
abbrev pub fold_with : Op → Ty → List ℕ → (ℕ → List ℕ) → List ℕ → List ℕ
fold_with op ty own bytes others = fold_of op ty own (map bytes others)

-- the n-th reduction of a communicator and root: the root that has done it holds the fold that starts with its own bytes
-- and goes on with those of the others, by its own operation and type, and its other registers are as they were
abbrev pub AreReduced : Script → Configuration State → Type 0
AreReduced script c =
    (comm place dst src root : ℕ) (op : Op) (ty : Ty) (u begun after : State) (bytes : ℕ → List ℕ)
    → slice_get c.cells root ≡ Some u → place_of (setup_of script) comm root ≡ place
    → HasDone script root (stmt.Reduce comm place op ty dst src) u begun after
    → AllGive script c (stmt.Reduce comm place) kind.Reduce comm place root begun bytes
    → after.local.registers ≡ slice_set begun.local.registers dst
    (fold_with op ty (register_at begun.local src) bytes (others_of (setup_of script) comm root place))

-- if the root has done its n-th reduction of a communicator, each of the others came to its n-th, and the root holds the fold
-- of what they gave then
abbrev pub OthersGave : Script → Configuration State → Type 0
OthersGave script c =
    (comm place dst src root : ℕ) (op : Op) (ty : Ty) (u begun after : State)
    → slice_get c.cells root ≡ Some u → place_of (setup_of script) comm root ≡ place
    → HasDone script root (stmt.Reduce comm place op ty dst src) u begun after
    → (bytes : ℕ → List ℕ) × AllGive script c (stmt.Reduce comm place) kind.Reduce comm place root begun bytes
    × (after.local.registers
    ≡ slice_set begun.local.registers dst
    (fold_with op ty (register_at begun.local src) bytes (others_of (setup_of script) comm root place)))

-- the n-th reduction to all of a communicator: member 0 that has done it holds the fold of all members' bytes in rank
-- order, by its own operation and type
abbrev pub AreReducedToAll : Script → Configuration State → Type 0
AreReducedToAll script c =
    (comm dst src root : ℕ) (op : Op) (ty : Ty) (u begun after : State) (bytes : ℕ → List ℕ)
    → slice_get c.cells root ≡ Some u → place_of (setup_of script) comm root ≡ 0
    → HasDone script root (stmt.Allreduce comm op ty dst src) u begun after
    → AllGive script c (stmt.Allreduce comm) kind.AllUp comm 0 root begun bytes
    → after.local.registers ≡ slice_set begun.local.registers dst
    (fold_with op ty (register_at begun.local src) bytes (others_of (setup_of script) comm root 0))

-- if member 0 has done its n-th reduction to all of a communicator, each of the others came to its n-th
abbrev pub OthersGaveToAll : Script → Configuration State → Type 0
OthersGaveToAll script c =
    (comm dst src root : ℕ) (op : Op) (ty : Ty) (u begun after : State)
    → slice_get c.cells root ≡ Some u → place_of (setup_of script) comm root ≡ 0
    → HasDone script root (stmt.Allreduce comm op ty dst src) u begun after
    → (bytes : ℕ → List ℕ) × AllGive script c (stmt.Allreduce comm) kind.AllUp comm 0 root begun bytes
    × (after.local.registers
    ≡ slice_set begun.local.registers dst
    (fold_with op ty (register_at begun.local src) bytes (others_of (setup_of script) comm root 0)))

-- each of the others that has done the n-th reduction to all holds that fold too, whatever operation and type it names
abbrev pub AreToldAll : Script → Configuration State → Type 0
AreToldAll script c =
    (comm dst src root to from rank : ℕ) (op other : Op) (ty width : Ty) (u v begun before after : State) (bytes : ℕ → List ℕ)
    → slice_get c.cells root ≡ Some u → slice_get c.cells rank ≡ Some v
    → IsOther (setup_of script) comm 0 root rank
    → CameTo script root (stmt.Allreduce comm op ty dst src) u begun
    → AllGive script c (stmt.Allreduce comm) kind.AllUp comm 0 root begun bytes
    → HasDone script rank (stmt.Allreduce comm other width to from) v before after
    → sends_of kind.AllDown comm rank begun ≡ receipts_of kind.AllDown comm root before
    → after.local.registers ≡ slice_set before.local.registers to
    (fold_with op ty (register_at begun.local src) bytes (others_of (setup_of script) comm root 0))

-- member 0, and each of the others, came to the same reduction to all as a rank that held `before`. The rank itself gave
-- `own`, and `told` is the fold of what all gave. Eight parameters: the script and the configuration of its run, the
-- communicator and its member 0, and of the other its rank, its state, what it gave and what it received.
pub record TellsFold (script : Script) (c : Configuration State) (comm root rank : ℕ) (before : State) (own told : List ℕ) : Type 0 where
  pub op : Op
  pub ty : Ty
  pub dst : ℕ
  pub src : ℕ
  pub now : State
  pub begun : State
  pub bytes : ℕ → List ℕ
  pub there : slice_get c.cells root ≡ Some now
  pub came : CameTo script root (stmt.Allreduce comm op ty dst src) now begun
  pub same : sends_of kind.AllDown comm rank begun ≡ receipts_of kind.AllDown comm root before
  pub given : AllGive script c (stmt.Allreduce comm) kind.AllUp comm 0 root begun bytes
  pub mine : bytes rank ≡ own
  pub result : fold_with op ty (register_at begun.local src) bytes (others_of (setup_of script) comm root 0) ≡ told

-- if one of the others has done the n-th reduction to all of a communicator, member 0 came to its n-th, and so did each of the
-- others
abbrev pub AllCame : Script → Configuration State → Type 0
AllCame script c =
    (comm root to from rank : ℕ) (op : Op) (ty : Ty) (v before after : State)
    → slice_get c.cells rank ≡ Some v
    → IsOther (setup_of script) comm 0 root rank
    → HasDone script rank (stmt.Allreduce comm op ty to from) v before after
    → (told : List ℕ) × TellsFold script c comm root rank before (register_at before.local from) told
    × (after.local.registers ≡ slice_set before.local.registers to told)

-- Any messages of a call determine how many calls of its kind a rank has made, at the beginning of each statement: a root has
-- as many with one of the others as with another, and each of the others has sent as many as it has received.
pub record AreCountedAlike (script : Script) : Type 0 where
  pub broadcasts : (comm place root one two : ℕ) (statement : Stmt) (u : State)
      → IsOther (setup_of script) comm place root one → IsOther (setup_of script) comm place root two
      → StandsAtStatement script root statement u → sends_of kind.Bcast comm one u ≡ sends_of kind.Bcast comm two u
  pub reductions : (comm place root one two : ℕ) (statement : Stmt) (u : State)
      → IsOther (setup_of script) comm place root one → IsOther (setup_of script) comm place root two
      → StandsAtStatement script root statement u → receipts_of kind.Reduce comm one u ≡ receipts_of kind.Reduce comm two u
  pub reductions_to_all : (comm root one two : ℕ) (statement : Stmt) (u : State)
      → IsOther (setup_of script) comm 0 root one → IsOther (setup_of script) comm 0 root two
      → StandsAtStatement script root statement u → receipts_of kind.AllUp comm one u ≡ sends_of kind.AllDown comm two u
  pub told : (comm root rank : ℕ) (statement : Stmt) (u : State)
      → IsOther (setup_of script) comm 0 root rank
      → StandsAtStatement script rank statement u → sends_of kind.AllUp comm root u ≡ receipts_of kind.AllDown comm root u

-- no one else's registers change: neither those of the root of a broadcast, nor those of the others in a reduction
abbrev pub AreUntouched : Script → Type 0
AreUntouched script =
    (comm place len reg dst src root rank : ℕ) (op : Op) (ty : Ty) (now before after : State)
    → IsOther (setup_of script) comm place root rank
    → (HasDone script root (stmt.Bcast comm place reg len) now before after → after.local.registers ≡ before.local.registers)
    × (HasDone script rank (stmt.Reduce comm place op ty dst src) now before after → after.local.registers ≡ before.local.registers)

-- what the collective calls of a script guarantee in a configuration, each fact a field
pub record CollectivesHold (script : Script) (c : Configuration State) : Type 0 where
  pub messages : AreReceivedAsSent c
  pub broadcasts : AreBroadcast script c
  pub reductions : AreReduced script c
  pub reductions_to_all : AreReducedToAll script c
  pub told : AreToldAll script c
  pub root_came : RootCame script c
  pub others_gave : OthersGave script c
  pub others_gave_to_all : OthersGaveToAll script c
  pub all_came : AllCame script c
  pub counted : AreCountedAlike script
  pub untouched : AreUntouched script
