-- A script that was read names no more registers than a file may, and its repeats are closed.
use Rattle.std.proofs.Common.{◌≡◌, ℕ, ◌+◌, ◌≤◌, ◌==◌, Bool, true, false, if◌then◌else◌, Option, Some, None, List, [], ◌∷◌, ◌++◌, length, reverse, refl, sym, ap, ◌∙◌, subst, arith, lit≤, Result, Ok, Err, nat_lt}
use Rattle.std.proofs.lemmas.Bool.{eqb-true, ltb-false}
use Rattle.std.proofs.lemmas.List.{reverse-append}
use Rattle.std.specs.Option.{ok_or, option_map_or}
use Rattle.std.specs.Prelude.{IfOk}
use Rattle.script_rules.specs.declared.effect.Effect.{Effect}
use Rattle.script_rules.specs.declared.fault.FaultKind.{FaultKind}
use Rattle.script_rules.specs.declared.fault.FaultKind.TheVariants as kind
use Rattle.script_reader.specs.declared.fault.ReadFault.{ReadFault}
use Rattle.script_rules.specs.declared.repeats.Open.{Open}
use Rattle.script_reader.specs.declared.said.Collective.{Collective}
use Rattle.script_reader.specs.declared.said.Collective.TheVariants as group
use Rattle.script_reader.specs.declared.said.Local.{Local}
use Rattle.script_reader.specs.declared.said.Local.TheVariants as local
use Rattle.script_reader.specs.declared.said.Message.{Message}
use Rattle.script_reader.specs.declared.said.Message.TheVariants as message
use Rattle.script_reader.specs.declared.said.Said.{Said}
use Rattle.script_reader.specs.declared.said.Said.TheVariants as said
use Rattle.script_reader.specs.declared.said.Section.{Section}
use Rattle.script_reader.specs.declared.said.Section.TheVariants as section
use Rattle.script_rules.specs.declared.script.Item.{Item}
use Rattle.script_rules.specs.declared.script.Stmt.{Stmt}
use Rattle.script_rules.specs.declared.script.Stmt.TheVariants as stmt
use Rattle.script_rules.specs.declared.script.Who.{Who}
use Rattle.script_rules.specs.declared.script.Who.TheVariants as ranks
use Rattle.script_rules.specs.declared.version.Version.{Version}
use Rattle.script_rules.specs.Checks.{innermost, is_stray, open_of}
use Rattle.script_rules.specs.Closed.{AreMatched, StayInSection, Closes, HasPass, HavePasses, IsClosed, latest_section}
use Rattle.script_rules.specs.Effects.{effect_of}
use Rattle.script_reader.specs.Faults.{◌>>=◌}
use Rattle.script_rules.specs.Limits.{most_names}
use Rattle.script_reader.specs.Progress.{ReadingSoFar, after_script_line, after_group, after_local, after_message, after_section, section_or_fault, first_fault, local_numbered, with_known_name, open_section, past, peer_in, place, rank_said, register_of, rule_said, small, start}
use Rattle.script_reader.specs.Reading.{at_end, at_line, past_opening, most_script_bytes, parse_script, read_all_lines, read_line, read_lines, read_words, script_of, version_of}
use Rattle.script_reader.specs.Said.{said_of}
use Rattle.script_rules.specs.Script.{Script}
use Rattle.texts.specs.Cuts.{is_text, line_count, lines_of, words_of}
use Rattle.script_rules.proofs.ClosedLemmas.{closed-of}
use Rattle.script_reader.proofs.FaultLemmas.{IsSound, no-fault}
use Rattle.script_reader.proofs.VersionLemmas.{IsPlain, said-plain}

-- the lines so far: no more names than a file may have, repeats well nested, each run at least once and within one section
record IsLaid (p : ReadingSoFar) : Type 0 where
  matched : AreMatched (past p)
  within : StayInSection (past p)
  once : HavePasses (past p)
  here : 1 ≤ length (open_of (past p)) → latest_section (past p) ≡ p.section

record IsFormed (p : ReadingSoFar) : Type 0 where
  few : length p.names ≤ most_names
  laid : IsLaid p

abbrev Keeps : {E : Type 0} → Result ReadingSoFar E → Type 0
Keeps r = IfOk r IsFormed

bind : {A E : Type 0} (r : Result A E) (next : A → Result ReadingSoFar E) → ((x : A) → Keeps (next x)) → Keeps (r >>= next)
bind (Ok x) next each = each x
bind (Err e) next each = tt

bind_given : {A E : Type 0} (F : A → Type 0) (r : Result A E) (next : A → Result ReadingSoFar E) → IfOk r F → ((x : A) → F x → Keeps (next x)) → Keeps (r >>= next)
bind_given F (Ok x) next given each = each x given
bind_given F (Err e) next given each = tt

bind_kept : {E : Type 0} (r : Result ReadingSoFar E) (next : ReadingSoFar → Result ReadingSoFar E) → Keeps r → ((p : ReadingSoFar) → IsFormed p → Keeps (next p)) → Keeps (r >>= next)
bind_kept (Ok p) next kept each = each p kept
bind_kept (Err e) next kept each = tt

either : (b : Bool) (x y : Result ReadingSoFar FaultKind) → Keeps x → Keeps y → Keeps (if b then x else y)
either true x y one other = one
either false x y one other = other

-- what the checks of a line leave of names and of open repeats
record IsPassed (p : ReadingSoFar) (e : Effect) (who : Who) : Type 0 where
  few : length p.names ≤ most_names
  inside : is_stray (open_of (past p)) e.nesting ≡ false
  here : p.section ≡ Some who

section_passes : (p : ReadingSoFar) (e : Effect) (section : Option Who) → p.section ≡ section → IsSound p e → IfOk (ok_or section kind.NoSection) (IsPassed p e)
section_passes p e None here sound = tt
section_passes p e (Some who) here sound = record { few = omega (arith, ltb-false most_names (length p.names) sound.few); inside = sound.inside; here = here }

fault_passes : (p : ReadingSoFar) (e : Effect) (fault : Option FaultKind) → first_fault p e ≡ fault → IfOk (option_map_or Err fault (ok_or p.section kind.NoSection)) (IsPassed p e)
fault_passes p e None is = section_passes p e p.section refl (no-fault p e is)
fault_passes p e (Some fault) is = tt

passes : (p : ReadingSoFar) (e : Effect) → IfOk (section_or_fault p e) (IsPassed p e)
passes p e = fault_passes p e (first_fault p e) refl

placed_in : (line : ℕ) (p : ReadingSoFar) (stmt : Stmt) → IsLaid p → HasPass (effect_of stmt).nesting → (is_stray (open_of (past p)) (effect_of stmt).nesting ≡ false → Closes (open_of (past p)) (effect_of stmt).nesting) → Keeps (place line p stmt)
placed_in line p stmt laid once closes =
    bind_given (IsPassed p (effect_of stmt)) (section_or_fault p (effect_of stmt)) _ (passes p (effect_of stmt)) (λ who passed.
    let item : Item = record { line = line; who = who; stmt = stmt } in
    let list : item ∷ past p ≡ reverse (p.items ++ item ∷ []) = sym (reverse-append p.items (item ∷ [])) in
    record {
      few = passed.few;
      laid = record {
        matched = subst (λ (l : List Item). AreMatched l) list (laid.matched, closes passed.inside);
        within = subst (λ (l : List Item). StayInSection l) list (laid.within, λ some. laid.here some ∙ passed.here);
        once = subst (λ (l : List Item). HavePasses l) list (laid.once, once);
        here = λ some. ap latest_section (sym list) ∙ sym passed.here;
      };
    })

-- names change nothing in it
renamed : (p q : ReadingSoFar) → p.items ≡ q.items → p.section ≡ q.section → IsLaid p → IsLaid q
renamed p q items section laid = record {
  matched = subst (λ (l : List Item). AreMatched (reverse l)) items laid.matched;
  within = subst (λ (l : List Item). StayInSection (reverse l)) items laid.within;
  once = subst (λ (l : List Item). HavePasses (reverse l)) items laid.once;
  here = λ some. ap (λ (l : List Item). latest_section (reverse l)) (sym items) ∙ laid.here (subst (λ (l : List Item). 1 ≤ length (open_of (reverse l))) (sym items) some) ∙ section;
}

placed : (line : ℕ) (p q : ReadingSoFar) (stmt : Stmt) → p.items ≡ q.items → p.section ≡ q.section → IsLaid p → HasPass (effect_of stmt).nesting
    → (is_stray (open_of (past q)) (effect_of stmt).nesting ≡ false → Closes (open_of (past q)) (effect_of stmt).nesting) → Keeps (place line q stmt)
placed line p q stmt items section laid once closes = placed_in line q stmt (renamed p q items section laid) once closes

none_left : (repeats : List Open) → (length repeats == 0) ≡ true → 1 ≤ length repeats → ⊥
none_left repeats closed some = omega (arith, eqb-true (length repeats) 0 closed, some)

opened : (b : Bool) (q : ReadingSoFar) → (b ≡ true → IsFormed q) → Keeps (if b then Ok q else Err kind.UnclosedRepeat)
opened true q given = given refl
opened false q given = tt

sectioned : (p : ReadingSoFar) (who : Who) → IsFormed p → Keeps (open_section p who)
sectioned p who formed =
    opened (length (open_of (past p)) == 0) (record p { section = Some who })
    (λ closed. record {
      few = formed.few;
      laid = record { matched = formed.laid.matched; within = formed.laid.within; once = formed.laid.once; here = λ some. absurd (none_left (open_of (past p)) closed some) };
    })

section_keeps : (p : ReadingSoFar) (s : Section) → IsFormed p → Keeps (after_section p s)
section_keeps p section.All formed = sectioned p ranks.All formed
section_keeps p section.Even formed = sectioned p ranks.Even formed
section_keeps p section.Odd formed = sectioned p ranks.Odd formed
section_keeps p (section.Span first last) formed =
    bind (rank_said p.nue first) _ (λ one.
    bind (rank_said p.nue last) _ (λ other.
    either (nat_lt other one) (Err kind.RankRange) (open_section p (ranks.Span one other)) tt (sectioned p (ranks.Span one other) formed)))

-- a statement of the rank's own opens no repeat and closes none
local_passes : (names : List (List ℕ)) (l : Local) → HasPass (effect_of (local_numbered names l).statement).nesting
local_passes names (local.Bytes name bytes) = tt
local_passes names _ = tt

local_closes : (repeats : List Open) (names : List (List ℕ)) (l : Local) → Closes repeats (effect_of (local_numbered names l).statement).nesting
local_closes repeats names (local.Bytes name bytes) = tt
local_closes repeats names _ = tt

local_keeps : (line : ℕ) (p : ReadingSoFar) (l : Local) → IsLaid p → Keeps (after_local line p l)
local_keeps line p l laid =
    placed line p (record p { names = (local_numbered p.names l).names }) (local_numbered p.names l).statement refl refl laid (local_passes p.names l) (λ passed. local_closes (open_of (past p)) p.names l)

message_keeps : (line : ℕ) (p : ReadingSoFar) (m : Message) → IsLaid p → Keeps (after_message line p m)
message_keeps line p (message.Send peer name) laid = bind (peer_in p.nue peer) _ (λ at. placed line p (with_known_name p name) (stmt.Send at (register_of p.names name)) refl refl laid tt (λ passed. tt))
message_keeps line p (message.Post peer name) laid = bind (peer_in p.nue peer) _ (λ at. placed line p (with_known_name p name) (stmt.Post at (register_of p.names name)) refl refl laid tt (λ passed. tt))
message_keeps line p (message.Recv peer name len) laid = bind (peer_in p.nue peer) _ (λ at. placed line p (with_known_name p name) (stmt.Recv at (register_of p.names name) len) refl refl laid tt (λ passed. tt))

group_keeps : (line : ℕ) (p : ReadingSoFar) (g : Collective) → IsLaid p → Keeps (after_group line p g)
group_keeps line p (group.Barrier comm) laid = placed line p p (stmt.Barrier (small comm)) refl refl laid tt (λ passed. tt)
group_keeps line p (group.Split comm parent colour parts) laid = placed line p p (stmt.Split (small comm) (rule_said colour (small parent) parts)) refl refl laid tt (λ passed. tt)
group_keeps line p (group.Bcast comm root name len) laid = placed line p (with_known_name p name) (stmt.Bcast (small comm) (small root) (register_of p.names name) len) refl refl laid tt (λ passed. tt)
group_keeps line p (group.Reduce comm root op ty dst src) laid =
    placed line p (with_known_name (with_known_name p dst) src) (stmt.Reduce (small comm) (small root) op ty (register_of p.names dst) (register_of (with_known_name p dst).names src)) refl refl laid tt (λ passed. tt)
group_keeps line p (group.Allreduce comm op ty dst src) laid =
    placed line p (with_known_name (with_known_name p dst) src) (stmt.Allreduce (small comm) op ty (register_of p.names dst) (register_of (with_known_name p dst).names src)) refl refl laid tt (λ passed. tt)

some_open : (repeats : List Open) → (length repeats == 0) ≡ false → 1 ≤ length repeats
some_open [] inside = absurd cc
some_open (repeat ∷ repeats) inside = omega arith

said_keeps : (line : ℕ) (v : Version) (p : ReadingSoFar) (s : Said) → IsPlain v s → IsFormed p → Keeps (after_script_line line p s)
said_keeps line v p said.Version is formed = formed
said_keeps line v p (said.Section section) is formed = section_keeps p section formed
said_keeps line v p (said.Local local) is formed = local_keeps line p local formed.laid
said_keeps line v p (said.Message message) is formed = message_keeps line p message formed.laid
said_keeps line v p (said.Collective group) is formed = group_keeps line p group formed.laid
said_keeps line v p (said.Repeat times) is formed = placed_in line p (stmt.Repeat times 0) formed.laid is (λ inside. tt)
said_keeps line v p said.End is formed =
    placed_in line p (stmt.End (innermost (open_of (past p)))) formed.laid tt (λ inside. (some_open (open_of (past p)) inside, refl))

words_keep : (line : ℕ) (p : ReadingSoFar) (words : List (List ℕ)) → IsFormed p → Keeps (read_words line p words)
words_keep line p [] formed = formed
words_keep line p (first ∷ words) formed =
    bind_given (IsPlain p.version) (said_of p.version p.opening first words) _ (said-plain p.version p.opening first words)
    (λ s is. said_keeps line p.version (past_opening p) s is (record { few = formed.few; laid = renamed p (past_opening p) refl refl formed.laid }))

line_keeps : (number : ℕ) (p : ReadingSoFar) (line : List ℕ) → IsFormed p → Keeps (read_line number p line)
line_keeps number p line formed = either (is_text line) _ _ (words_keep number p (words_of line) formed) tt

numbered : (number : ℕ) (r : Result ReadingSoFar FaultKind) → Keeps r → Keeps (at_line number r)
numbered number (Ok p) kept = kept
numbered number (Err kind) kept = tt

lines_keep : (before : ℕ) (p : ReadingSoFar) (lines : List (List ℕ)) → IsFormed p → Keeps (read_lines before p lines)
lines_keep before p [] formed = formed
lines_keep before p (line ∷ lines) formed =
    bind_kept (at_line (before + 1) (read_line (before + 1) p line)) _
    (numbered (before + 1) (read_line (before + 1) p line) (line_keeps (before + 1) p line formed))
    (λ q kept. lines_keep (before + 1) q lines kept)

abbrev Has : {E : Type 0} → Result Script E → Type 0
Has r = IfOk r (λ script. (length script.names ≤ most_names) × IsClosed script)

ended : (b : Bool) (script : Script) (fault : ReadFault) → (b ≡ true → (length script.names ≤ most_names) × IsClosed script) → Has (if b then Ok script else Err fault)
ended true script fault given = given refl
ended false script fault given = tt

none_open : (repeats : List Open) → (length repeats == 0) ≡ true → repeats ≡ []
none_open [] closed = refl
none_open (repeat ∷ repeats) closed = absurd (omega (arith, eqb-true (length (repeat ∷ repeats)) 0 closed))

at_end_formed : (count : ℕ) (p : ReadingSoFar) → IsFormed p → Has (at_end count p)
at_end_formed count p formed =
    ended (length (open_of (past p)) == 0) (script_of p) (record { line = count + 1; kind = kind.UnclosedRepeat })
    (λ closed. (formed.few, closed-of p.nue p.items p.names (none_open (open_of (past p)) closed) formed.laid.matched formed.laid.within formed.laid.once))

at_end_has : (count : ℕ) (r : Result ReadingSoFar ReadFault) → Keeps r → Has (r >>= at_end count)
at_end_has count (Ok p) kept = at_end_formed count p kept
at_end_has count (Err fault) kept = tt

all_have : (version : Version) (lines : List (List ℕ)) (nue : ℕ) → Has (read_all_lines version lines nue)
all_have version lines nue =
    at_end_has (line_count lines) (read_lines 0 (start version nue) lines) (lines_keep 0 (start version nue) lines (record { few = lit≤ tt; laid = record { matched = tt; within = tt; once = tt; here = λ some. absurd (omega (arith, some)) } }))

afterwards : (b : Bool) (fault : ReadFault) (r : Result Script ReadFault) → Has r → Has (if b then Err fault else r)
afterwards true fault r has = tt
afterwards false fault r has = has

parse_has : (bytes : List ℕ) (nue : ℕ) → Has (parse_script bytes nue)
parse_has bytes nue =
    afterwards (nat_lt most_script_bytes (length bytes)) (record { line = 0; kind = kind.TooLong }) (read_all_lines (version_of (lines_of bytes)) (lines_of bytes) nue)
    (all_have (version_of (lines_of bytes)) (lines_of bytes) nue)

weaker : (P Q : Script → Type 0) (r : Result Script ReadFault) → ((script : Script) → P script → Q script) → IfOk r P → IfOk r Q
weaker P Q (Ok script) more is = more script is
weaker P Q (Err fault) more is = tt

-- the names of a script
pub parse_named : (bytes : List ℕ) (nue : ℕ) → IfOk (parse_script bytes nue) (λ script. length script.names ≤ most_names)
parse_named bytes nue =
    weaker (λ script. (length script.names ≤ most_names) × IsClosed script) (λ script. length script.names ≤ most_names) (parse_script bytes nue) (λ script both. both.0) (parse_has bytes nue)

-- its repeats
pub parse_closed : (bytes : List ℕ) (nue : ℕ) → IfOk (parse_script bytes nue) IsClosed
parse_closed bytes nue =
    weaker (λ script. (length script.names ≤ most_names) × IsClosed script) IsClosed (parse_script bytes nue) (λ script both. both.1) (parse_has bytes nue)
