-- The fourth layer of the grammar: what has been read after a line (this project's profile).
use Rattle.std.specs.Prelude.{ℕ, Bool, true, false, ◌||◌, ◌==◌, is_none, nat_lt, min, if◌then◌else◌, List, [], ◌∷◌, ◌++◌, length, reverse, Option, Some, None, Result, Ok, Err}
use Rattle.std.specs.List.{find, position_or_len}
use Rattle.std.specs.Option.{ok_or, option_map_or}
use Rattle.std.specs.Str.{bytes_eq}
use Rattle.scc_base.specs.declared.communicators.CommRule.{CommRule}
use Rattle.scc_base.specs.declared.communicators.CommRule.TheVariants as rule
use Rattle.script_rules.specs.declared.effect.Effect.{Effect}
use Rattle.script_rules.specs.declared.fault.FaultKind.{FaultKind}
use Rattle.script_rules.specs.declared.fault.FaultKind.TheVariants as kind
use Rattle.script_reader.specs.declared.said.Collective.{Collective}
use Rattle.script_reader.specs.declared.said.Collective.TheVariants as group
use Rattle.script_reader.specs.declared.said.Colour.{Colour}
use Rattle.script_reader.specs.declared.said.Colour.TheVariants as colour
use Rattle.script_reader.specs.declared.said.Local.{Local}
use Rattle.script_reader.specs.declared.said.Local.TheVariants as local
use Rattle.script_reader.specs.declared.said.Message.{Message}
use Rattle.script_reader.specs.declared.said.Message.TheVariants as message
use Rattle.script_reader.specs.declared.said.PeerSaid.{PeerSaid}
use Rattle.script_reader.specs.declared.said.PeerSaid.TheVariants as peer
use Rattle.script_reader.specs.declared.said.Said.{Said}
use Rattle.script_reader.specs.declared.said.Said.TheVariants as said
use Rattle.script_reader.specs.declared.said.Section.{Section}
use Rattle.script_reader.specs.declared.said.Section.TheVariants as section
use Rattle.script_rules.specs.declared.script.Item.{Item}
use Rattle.script_rules.specs.declared.script.OwnStmt.TheVariants as own
use Rattle.script_rules.specs.declared.script.Peer.{Peer}
use Rattle.script_rules.specs.declared.script.Peer.TheVariants as to
use Rattle.script_rules.specs.declared.script.Stmt.{Stmt}
use Rattle.script_rules.specs.declared.script.Stmt.TheVariants as stmt
use Rattle.script_rules.specs.declared.script.Who.{Who}
use Rattle.script_rules.specs.declared.script.Who.TheVariants as ranks
use Rattle.script_rules.specs.declared.version.Version.{Version}
use Rattle.script_rules.specs.Checks.{has_no_parent, innermost, is_stray, is_too_deep, is_too_long, is_unknown, open_of, refuses, run_of, some_rank, turns_in, turns_too_often}
use Rattle.script_rules.specs.Effects.{effect_of}
use Rattle.script_reader.specs.Faults.{◌>>=◌}
use Rattle.script_rules.specs.Limits.{most_names}

-- what the lines so far have given: the statements, the names of registers, the current section, and whether no line has had
-- words yet
pub record ReadingSoFar : Type 0 where
  pub version : Version
  pub nue : ℕ
  pub opening : Bool
  pub items : List Item
  pub names : List (List ℕ)
  pub section : Option Who

-- nothing has been read before the first line
abbrev pub start : Version → ℕ → ReadingSoFar
start version nue = record { version = version; nue = nue; opening = true; items = []; names = []; section = None }

-- the statements so far, the latest first
abbrev pub past : ReadingSoFar → List Item
past p = reverse p.items

-- the number of a register: the place of its name, or the next free place for a new name
abbrev pub register_of : List (List ℕ) → List ℕ → ℕ
register_of names name = position_or_len (λ other. bytes_eq other name) names

-- the names with this one added, unless it is there already
abbrev pub with_name : List (List ℕ) → List ℕ → List (List ℕ)
with_name names name = if register_of names name == length names then names ++ name ∷ [] else names

-- what has been read, with this name added
abbrev pub with_known_name : ReadingSoFar → List ℕ → ReadingSoFar
with_known_name p name = record p { names = with_name p.names name }

-- a check on ranks refuses the statement for some rank of the section
abbrev pub is_refused : FaultKind → ReadingSoFar → Effect → Bool
is_refused kind p e = some_rank p.nue p.section (refuses kind p.nue (past p) e)

-- a statement with this effect has a fault, given the lines so far. (Faults of the words of its line are not among these.)
abbrev pub has_fault : ReadingSoFar → Effect → FaultKind → Bool
has_fault p e kind.NotText = false
has_fault p e kind.UnknownStatement = false
has_fault p e kind.WrongCount = false
has_fault p e kind.BadNumber = false
has_fault p e kind.BadHex = false
has_fault p e kind.BadName = false
has_fault p e kind.RankRange = is_refused kind.RankRange p e
has_fault p e kind.SelfMessage = is_refused kind.SelfMessage p e
has_fault p e kind.UnknownComm = is_unknown p.version (run_of p.nue (past p)) e.group
has_fault p e kind.NotSplit = has_no_parent (run_of p.nue (past p)) e.group || is_refused kind.NotSplit p e
has_fault p e kind.Unset = is_refused kind.Unset p e
has_fault p e kind.Shape = is_refused kind.Shape p e
has_fault p e kind.NoSection = is_none p.section
has_fault p e kind.UnclosedRepeat = false
has_fault p e kind.StrayEnd = is_stray (open_of (past p)) e.nesting
has_fault p e kind.TooDeep = is_too_deep (open_of (past p)) e.nesting
has_fault p e kind.TooManyOps = turns_too_often (turns_in (open_of (past p))) e.nesting || is_refused kind.TooManyOps p e
has_fault p e kind.TooLong = is_too_long e || is_refused kind.TooLong p e
has_fault p e kind.TooManyNames = nat_lt most_names (length p.names)

-- the faults that a statement may have, in the order of the fault table: the first one found is reported
abbrev pub fault_table : List FaultKind
fault_table =
    kind.RankRange ∷ kind.SelfMessage ∷ kind.UnknownComm ∷ kind.NotSplit ∷ kind.Unset ∷ kind.Shape ∷ kind.NoSection
    ∷ kind.StrayEnd ∷ kind.TooDeep ∷ kind.TooManyOps ∷ kind.TooLong ∷ kind.TooManyNames ∷ []

-- the first fault of a statement, in the order of the fault table
abbrev pub first_fault : ReadingSoFar → Effect → Option FaultKind
first_fault p e = find (has_fault p e) fault_table

-- the section that a statement belongs to, or its first fault
abbrev pub section_or_fault : ReadingSoFar → Effect → Result Who FaultKind
section_or_fault p e = option_map_or Err (first_fault p e) (ok_or p.section kind.NoSection)

-- the statements with this one added, unless a check refuses it
abbrev pub place : ℕ → ReadingSoFar → Stmt → Result ReadingSoFar FaultKind
place line p stmt = do
  who ← section_or_fault p (effect_of stmt)
  Ok (record p { items = p.items ++ (record { line = line; who = who; stmt = stmt }) ∷ [] })

-- a number as a rank of the run, or the fault RankRange
abbrev pub rank_said : ℕ → ℕ → Result ℕ FaultKind
rank_said nue number = if nat_lt number nue then Ok number else Err kind.RankRange

-- the peer that a word names; a number must be a rank of the run
abbrev pub peer_in : ℕ → PeerSaid → Result Peer FaultKind
peer_in nue (peer.Abs rank) = do
  rank ← rank_said nue rank
  Ok (to.Abs rank)
peer_in nue (peer.Plus up) = Ok (to.Plus up)
peer_in nue (peer.Minus down) = Ok (to.Minus down)

-- the number of a communicator, or of a place in a group: each number above 255 is stored as 255
abbrev pub small : ℕ → ℕ
small number = min number 255

-- the rule of a split, by its kind (`mod` or `div`), its parent and its number of parts
abbrev pub rule_said : Colour → ℕ → ℕ → CommRule
rule_said colour.Mod parent parts = rule.Mod parent parts
rule_said colour.Div parent parts = rule.Div parent parts

-- a section line: the statements that follow belong to these ranks. No repeat may be open.
abbrev pub open_section : ReadingSoFar → Who → Result ReadingSoFar FaultKind
open_section p who = if length (open_of (past p)) == 0 then Ok (record p { section = Some who }) else Err kind.UnclosedRepeat

-- what has been read after a section line, whose ranks must be ranks of the run
abbrev pub after_section : ReadingSoFar → Section → Result ReadingSoFar FaultKind
after_section p section.All = open_section p ranks.All
after_section p section.Even = open_section p ranks.Even
after_section p section.Odd = open_section p ranks.Odd
after_section p (section.Span first last) = do
  first ← rank_said p.nue first
  last ← rank_said p.nue last
  if nat_lt last first then Err kind.RankRange else open_section p (ranks.Span first last)

-- a statement with its registers by number, and the names that are known after it
pub record NumberedStmt : Type 0 where
  pub names : List (List ℕ)
  pub statement : Stmt

-- a statement that names one register
abbrev pub naming_one : List (List ℕ) → List ℕ → (ℕ → Stmt) → NumberedStmt
naming_one names name says = record { names = with_name names name; statement = says (register_of names name) }

-- a statement that names two registers, in this order
abbrev pub naming_two : List (List ℕ) → List ℕ → List ℕ → (ℕ → ℕ → Stmt) → NumberedStmt
naming_two names first second says =
    record {
      names = with_name (with_name names first) second;
      statement = says (register_of names first) (register_of (with_name names first) second);
    }

-- a local statement with its registers by number, given the names so far
abbrev pub local_numbered : List (List ℕ) → Local → NumberedStmt
local_numbered names (local.Bytes name bytes) = naming_one names name (λ reg. stmt.Bytes reg bytes)
local_numbered names (local.Fill name len start) = naming_one names name (λ reg. stmt.Fill reg len start)
local_numbered names (local.RankOf name ty) = naming_one names name (λ reg. stmt.RankOf reg ty)
local_numbered names (local.Apply op ty dst src) = naming_two names dst src (λ dst src. stmt.Own (own.Apply op ty dst src))
local_numbered names (local.Print name form) = naming_one names name (λ reg. stmt.Own (own.Print reg form))

-- what has been read after a local statement, or the fault for which it is refused
abbrev pub after_local : ℕ → ReadingSoFar → Local → Result ReadingSoFar FaultKind
after_local line p local =
    place line (record p { names = (local_numbered p.names local).names }) (local_numbered p.names local).statement

-- what has been read after a send, a post or a receive, or the fault for which it is refused
abbrev pub after_message : ℕ → ReadingSoFar → Message → Result ReadingSoFar FaultKind
after_message line p (message.Send peer name) = do
  peer ← peer_in p.nue peer
  place line (with_known_name p name) (stmt.Send peer (register_of p.names name))
after_message line p (message.Post peer name) = do
  peer ← peer_in p.nue peer
  place line (with_known_name p name) (stmt.Post peer (register_of p.names name))
after_message line p (message.Recv peer name len) = do
  peer ← peer_in p.nue peer
  place line (with_known_name p name) (stmt.Recv peer (register_of p.names name) len)

-- what has been read after a statement on a communicator, or the fault for which it is refused
abbrev pub after_group : ℕ → ReadingSoFar → Collective → Result ReadingSoFar FaultKind
after_group line p (group.Barrier comm) = place line p (stmt.Barrier (small comm))
after_group line p (group.Split comm parent colour parts) = place line p (stmt.Split (small comm) (rule_said colour (small parent) parts))
after_group line p (group.Bcast comm root name len) =
    place line (with_known_name p name) (stmt.Bcast (small comm) (small root) (register_of p.names name) len)
after_group line p (group.Reduce comm root op ty dst src) =
    place line (with_known_name (with_known_name p dst) src)
    (stmt.Reduce (small comm) (small root) op ty (register_of p.names dst) (register_of (with_known_name p dst).names src))
after_group line p (group.Allreduce comm op ty dst src) =
    place line (with_known_name (with_known_name p dst) src)
    (stmt.Allreduce (small comm) op ty (register_of p.names dst) (register_of (with_known_name p dst).names src))

-- what has been read after a line with this content
abbrev pub after_script_line : ℕ → ReadingSoFar → Said → Result ReadingSoFar FaultKind
after_script_line line p said.Version = Ok p
after_script_line line p (said.Section section) = after_section p section
after_script_line line p (said.Local local) = after_local line p local
after_script_line line p (said.Message message) = after_message line p message
after_script_line line p (said.Collective group) = after_group line p group
after_script_line line p (said.Repeat times) = place line p (stmt.Repeat times 0)
after_script_line line p said.End = place line p (stmt.End (innermost (open_of (past p))))
