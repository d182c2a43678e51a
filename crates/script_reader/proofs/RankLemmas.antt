-- A script that was read has as many ranks as it was read for.
use Rattle.std.proofs.Common.{◌≡◌, ℕ, ◌+◌, ◌==◌, Bool, true, false, if◌then◌else◌, Some, List, [], ◌∷◌, length, refl, subst, Result, Ok, Err, nat_lt}
use Rattle.std.specs.Prelude.{IfOk}
use Rattle.script_rules.specs.declared.fault.FaultKind.{FaultKind}
use Rattle.script_rules.specs.declared.fault.FaultKind.TheVariants as kind
use Rattle.script_reader.specs.declared.fault.ReadFault.{ReadFault}
use Rattle.script_reader.specs.declared.said.Collective.{Collective}
use Rattle.script_reader.specs.declared.said.Collective.TheVariants as group
use Rattle.script_reader.specs.declared.said.Local.{Local}
use Rattle.script_reader.specs.declared.said.Message.{Message}
use Rattle.script_reader.specs.declared.said.Message.TheVariants as message
use Rattle.script_reader.specs.declared.said.Said.{Said}
use Rattle.script_reader.specs.declared.said.Said.TheVariants as said
use Rattle.script_reader.specs.declared.said.Section.{Section}
use Rattle.script_reader.specs.declared.said.Section.TheVariants as section
use Rattle.script_rules.specs.declared.script.Stmt.{Stmt}
use Rattle.script_rules.specs.declared.script.Stmt.TheVariants as stmt
use Rattle.script_rules.specs.declared.script.Who.{Who}
use Rattle.script_rules.specs.declared.script.Who.TheVariants as ranks
use Rattle.script_rules.specs.declared.version.Version.{Version}
use Rattle.script_rules.specs.Checks.{innermost, open_of}
use Rattle.script_rules.specs.Effects.{effect_of}
use Rattle.script_reader.specs.Faults.{◌>>=◌}
use Rattle.script_reader.specs.Progress.{ReadingSoFar, after_script_line, after_group, after_local, after_message, after_section, section_or_fault, local_numbered, with_known_name, open_section, past, peer_in, place, rank_said, register_of, rule_said, small, start}
use Rattle.script_reader.specs.Reading.{at_end, at_line, past_opening, most_script_bytes, parse_script, read_all_lines, read_line, read_lines, read_words, script_of, version_of}
use Rattle.script_reader.specs.Said.{said_of}
use Rattle.script_rules.specs.Script.{Script}
use Rattle.texts.specs.Cuts.{is_text, line_count, lines_of, words_of}

abbrev Keeps : {E : Type 0} → ℕ → Result ReadingSoFar E → Type 0
Keeps nue r = IfOk r (λ p. p.nue ≡ nue)

abbrev Has : {E : Type 0} → ℕ → Result Script E → Type 0
Has nue r = IfOk r (λ script. script.nue ≡ nue)

bind : {A E : Type 0} (nue : ℕ) (r : Result A E) (next : A → Result ReadingSoFar E) → ((x : A) → Keeps nue (next x)) → Keeps nue (r >>= next)
bind nue (Ok x) next each = each x
bind nue (Err e) next each = tt

bind_kept : {E : Type 0} (nue : ℕ) (r : Result ReadingSoFar E) (next : ReadingSoFar → Result ReadingSoFar E) → Keeps nue r → ((p : ReadingSoFar) → Keeps p.nue (next p)) → Keeps nue (r >>= next)
bind_kept nue (Ok p) next kept each = subst (λ (n : ℕ). Keeps n (next p)) kept (each p)
bind_kept nue (Err e) next kept each = tt

either : (nue : ℕ) (b : Bool) (x y : Result ReadingSoFar FaultKind) → Keeps nue x → Keeps nue y → Keeps nue (if b then x else y)
either nue true x y one other = one
either nue false x y one other = other

placed : (line : ℕ) (p : ReadingSoFar) (stmt : Stmt) → Keeps p.nue (place line p stmt)
placed line p stmt = bind p.nue (section_or_fault p (effect_of stmt)) _ (λ who. refl)

sectioned : (p : ReadingSoFar) (who : Who) → Keeps p.nue (open_section p who)
sectioned p who = either p.nue (length (open_of (past p)) == 0) (Ok (record p { section = Some who })) (Err kind.UnclosedRepeat) refl tt

section_keeps : (p : ReadingSoFar) (s : Section) → Keeps p.nue (after_section p s)
section_keeps p section.All = sectioned p ranks.All
section_keeps p section.Even = sectioned p ranks.Even
section_keeps p section.Odd = sectioned p ranks.Odd
section_keeps p (section.Span first last) =
    bind p.nue (rank_said p.nue first) _ (λ one.
    bind p.nue (rank_said p.nue last) _ (λ other.
    either p.nue (nat_lt other one) (Err kind.RankRange) (open_section p (ranks.Span one other)) tt (sectioned p (ranks.Span one other))))

local_keeps : (line : ℕ) (p : ReadingSoFar) (l : Local) → Keeps p.nue (after_local line p l)
local_keeps line p l = placed line (record p { names = (local_numbered p.names l).names }) (local_numbered p.names l).statement

message_keeps : (line : ℕ) (p : ReadingSoFar) (m : Message) → Keeps p.nue (after_message line p m)
message_keeps line p (message.Send peer name) = bind p.nue (peer_in p.nue peer) _ (λ at. placed line (with_known_name p name) (stmt.Send at (register_of p.names name)))
message_keeps line p (message.Post peer name) = bind p.nue (peer_in p.nue peer) _ (λ at. placed line (with_known_name p name) (stmt.Post at (register_of p.names name)))
message_keeps line p (message.Recv peer name len) = bind p.nue (peer_in p.nue peer) _ (λ at. placed line (with_known_name p name) (stmt.Recv at (register_of p.names name) len))

group_keeps : (line : ℕ) (p : ReadingSoFar) (g : Collective) → Keeps p.nue (after_group line p g)
group_keeps line p (group.Barrier comm) = placed line p (stmt.Barrier (small comm))
group_keeps line p (group.Split comm parent colour parts) = placed line p (stmt.Split (small comm) (rule_said colour (small parent) parts))
group_keeps line p (group.Bcast comm root name len) = placed line (with_known_name p name) (stmt.Bcast (small comm) (small root) (register_of p.names name) len)
group_keeps line p (group.Reduce comm root op ty dst src) =
    placed line (with_known_name (with_known_name p dst) src) (stmt.Reduce (small comm) (small root) op ty (register_of p.names dst) (register_of (with_known_name p dst).names src))
group_keeps line p (group.Allreduce comm op ty dst src) =
    placed line (with_known_name (with_known_name p dst) src) (stmt.Allreduce (small comm) op ty (register_of p.names dst) (register_of (with_known_name p dst).names src))

said_keeps : (line : ℕ) (p : ReadingSoFar) (s : Said) → Keeps p.nue (after_script_line line p s)
said_keeps line p said.Version = refl
said_keeps line p (said.Section section) = section_keeps p section
said_keeps line p (said.Local local) = local_keeps line p local
said_keeps line p (said.Message message) = message_keeps line p message
said_keeps line p (said.Collective group) = group_keeps line p group
said_keeps line p (said.Repeat times) = placed line p (stmt.Repeat times 0)
said_keeps line p said.End = placed line p (stmt.End (innermost (open_of (past p))))

words_keep : (line : ℕ) (p : ReadingSoFar) (words : List (List ℕ)) → Keeps p.nue (read_words line p words)
words_keep line p [] = refl
words_keep line p (first ∷ words) = bind p.nue (said_of p.version p.opening first words) _ (λ s. said_keeps line (past_opening p) s)

line_keeps : (number : ℕ) (p : ReadingSoFar) (line : List ℕ) → Keeps p.nue (read_line number p line)
line_keeps number p line = either p.nue (is_text line) _ _ (words_keep number p (words_of line)) tt

numbered : (nue number : ℕ) (r : Result ReadingSoFar FaultKind) → Keeps nue r → Keeps nue (at_line number r)
numbered nue number (Ok p) kept = kept
numbered nue number (Err kind) kept = tt

lines_keep : (before : ℕ) (p : ReadingSoFar) (lines : List (List ℕ)) → Keeps p.nue (read_lines before p lines)
lines_keep before p [] = refl
lines_keep before p (line ∷ lines) =
    bind_kept p.nue (at_line (before + 1) (read_line (before + 1) p line)) _ (numbered p.nue (before + 1) (read_line (before + 1) p line) (line_keeps (before + 1) p line)) (λ q. lines_keep (before + 1) q lines)

ended : (b : Bool) (p : ReadingSoFar) (script : Script) (fault : ReadFault) → script.nue ≡ p.nue → Has p.nue (if b then Ok script else Err fault)
ended true p script fault same = same
ended false p script fault same = tt

at_end_has : (nue count : ℕ) (r : Result ReadingSoFar ReadFault) → Keeps nue r → Has nue (r >>= at_end count)
at_end_has nue count (Ok p) kept = subst (λ (n : ℕ). Has n (at_end count p)) kept (ended (length (open_of (past p)) == 0) p (script_of p) (record { line = count + 1; kind = kind.UnclosedRepeat }) refl)
at_end_has nue count (Err fault) kept = tt

all_have : (version : Version) (lines : List (List ℕ)) (nue : ℕ) → Has nue (read_all_lines version lines nue)
all_have version lines nue = at_end_has nue (line_count lines) (read_lines 0 (start version nue) lines) (lines_keep 0 (start version nue) lines)

unless : (nue : ℕ) (b : Bool) (fault : ReadFault) (r : Result Script ReadFault) → Has nue r → Has nue (if b then Err fault else r)
unless nue true fault r has = tt
unless nue false fault r has = has

-- the ranks of a script
pub parse_has : (bytes : List ℕ) (nue : ℕ) → IfOk (parse_script bytes nue) (λ script. script.nue ≡ nue)
parse_has bytes nue = unless nue (nat_lt most_script_bytes (length bytes)) (record { line = 0; kind = kind.TooLong }) (read_all_lines (version_of (lines_of bytes)) (lines_of bytes) nue) (all_have (version_of (lines_of bytes)) (lines_of bytes) nue)
