-- What the lines of a version say: a repeat is done at least once, and each split of version 1 takes apart the world.
use Rattle.std.proofs.Common.{◌≡◌, ◌≤◌, ℕ, zero, suc, Bool, true, false, cond, List, [], ◌∷◌, Option, Some, None, Result, Ok, Err, length, refl, sym, ap, ◌∙◌, arith, subst, inl, inr}
use Rattle.std.proofs.lemmas.Bool.{and_parts, cases_lt, leb-true}
use Rattle.std.proofs.lemmas.List.{get_or_past}
use Rattle.std.proofs.lemmas.List.FromFn.{length-map-range_with_len}
use Rattle.std.specs.Prelude.{◌+◌, ◌==◌, ◌&&◌, IfOk, codes, drop, nat_le, nat_lt, take}
use Rattle.std.specs.Str.{bytes_eq}
use Rattle.scc_base.specs.Communicators.{rule_of}
use Rattle.scc_base.specs.declared.communicators.CommRule.{CommRule}
use Rattle.scc_base.specs.declared.communicators.CommRule.TheVariants as rule
use Rattle.script_rules.specs.declared.fault.FaultKind.{FaultKind}
use Rattle.script_rules.specs.declared.fault.FaultKind.TheVariants as kind
use Rattle.script_reader.specs.declared.fault.ReadFault.{ReadFault}
use Rattle.script_reader.specs.declared.fault.ReadStop.{ReadStop}
use Rattle.script_reader.specs.declared.fault.ReadStop.TheVariants as stop
use Rattle.script_reader.specs.declared.said.Collective.{Collective}
use Rattle.script_reader.specs.declared.said.Collective.TheVariants as group
use Rattle.script_reader.specs.declared.said.Colour.{Colour}
use Rattle.script_reader.specs.declared.said.Colour.TheVariants as colour
use Rattle.script_reader.specs.declared.said.Local.{Local}
use Rattle.script_reader.specs.declared.said.Local.TheVariants as local
use Rattle.script_reader.specs.declared.said.LocalWord.{LocalWord}
use Rattle.script_reader.specs.declared.said.Message.{Message}
use Rattle.script_reader.specs.declared.said.Message.TheVariants as message
use Rattle.script_reader.specs.declared.said.Said.{Said}
use Rattle.script_reader.specs.declared.said.Said.TheVariants as said
use Rattle.script_reader.specs.declared.said.Section.{Section}
use Rattle.script_reader.specs.declared.said.Section.TheVariants as section
use Rattle.script_rules.specs.declared.script.Item.{Item}
use Rattle.script_rules.specs.declared.script.Stmt.{Stmt}
use Rattle.script_rules.specs.declared.script.Stmt.TheVariants as stmt
use Rattle.script_rules.specs.declared.script.Who.{Who}
use Rattle.script_rules.specs.declared.script.Who.TheVariants as who
use Rattle.script_rules.specs.declared.version.Version.{Version}
use Rattle.script_rules.specs.declared.version.Version.TheVariants as version
use Rattle.script_rules.specs.Checks.{innermost, open_of, version_number}
use Rattle.script_reader.specs.Counts.{of_five_words, of_four_words, of_six_words, of_three_words, of_two_words}
use Rattle.script_rules.specs.Effects.{effect_of, parent_of, split_rule}
use Rattle.script_reader.specs.Faults.{◌>>=◌, Gives}
use Rattle.script_rules.specs.Limits.{most_operations}
use Rattle.script_reader.specs.Progress.{ReadingSoFar, after_script_line, after_group, after_local, after_message, after_section, section_or_fault, local_numbered, with_known_name, open_section, past, peer_in, place, rank_said, register_of, rule_said, small, start}
use Rattle.script_reader.specs.Reading.{at_end, at_line, past_opening, most_script_bytes, read_all_lines, read_as, read_line, read_lines, read_words, script_of}
use Rattle.script_reader.specs.Said.{allreduce_said, allreduce_words, one_word_said, barrier_said, bcast_said, bcast_words, colour_said, dash_of, group_said, local_said, local_word, name_said, number_said, of_said, operation_said, peer_said, post_said, post_words, range_said, ranks_said, rcce_said, recv_said, recv_words, reduce_said, reduce_words, register_said, register_said_by, repeat_said, said_of, section_said, send_said, send_words, span_said, split_said, type_said, ue_said}
use Rattle.script_rules.specs.Script.{Script, first_split, rules_of}
use Rattle.script_rules.specs.Settled.{SplitsWorldAlone}
use Rattle.texts.specs.Cuts.{is_text, line_count, lines_of, words_of}
use Rattle.script_rules.proofs.EndLemmas.{rules-with_ends}
use Rattle.script_rules.proofs.RuleLemmas.{first_split-more, or_rule-either, split-at}

-- what a reading gives has a property, where all that its last step gives has it
pub then : {A B E : Type 0} (P : B → Type 0) (r : Result A E) (next : A → Result B E) → ((x : A) → IfOk (next x) P) → IfOk (r >>= next) P
then P (Ok x) next has = has x
then P (Err e) next has = tt

pub afterwards : {A B E : Type 0} (Q : A → Type 0) (P : B → Type 0) (r : Result A E) (next : A → Result B E) → IfOk r Q → ((x : A) → Q x → IfOk (next x) P) → IfOk (r >>= next) P
afterwards Q P (Ok x) next is has = has x is
afterwards Q P (Err e) next is has = tt

pub either : {B E : Type 0} (P : B → Type 0) (b : Bool) (x y : Result B E) → IfOk x P → IfOk y P → IfOk (cond b x y) P
either P true x y one other = one
either P false x y one other = other

-- what a line of a version says: in version 1 it splits nothing but the world, and a repeat is done at least once
abbrev pub IsPlain : Version → Said → Type 0
IsPlain v (said.Collective (group.Split comm parent how parts)) = v ≡ version.One → parent ≡ 0
IsPlain v (said.Repeat times) = 1 ≤ times
IsPlain v _ = Unit {0}

module _ (v : Version) where
  two-plain : (says : List ℕ → List ℕ → Result Said FaultKind) → ((a b : List ℕ) → IfOk (says a b) (IsPlain v)) → (words : List (List ℕ)) → IfOk (of_two_words says words) (IsPlain v)
  two-plain says plain (a ∷ b ∷ []) = plain a b
  two-plain says plain _ = tt

  three-plain : (says : List ℕ → List ℕ → List ℕ → Result Said FaultKind) → ((a b c : List ℕ) → IfOk (says a b c) (IsPlain v)) → (words : List (List ℕ)) → IfOk (of_three_words says words) (IsPlain v)
  three-plain says plain (a ∷ b ∷ c ∷ []) = plain a b c
  three-plain says plain _ = tt

  four-plain : (says : List ℕ → List ℕ → List ℕ → List ℕ → Result Said FaultKind) → ((a b c d : List ℕ) → IfOk (says a b c d) (IsPlain v)) → (words : List (List ℕ)) → IfOk (of_four_words says words) (IsPlain v)
  four-plain says plain (a ∷ b ∷ c ∷ d ∷ []) = plain a b c d
  four-plain says plain _ = tt

  five-plain : (says : List ℕ → List ℕ → List ℕ → List ℕ → List ℕ → Result Said FaultKind) → ((a b c d e : List ℕ) → IfOk (says a b c d e) (IsPlain v)) → (words : List (List ℕ)) → IfOk (of_five_words says words) (IsPlain v)
  five-plain says plain (a ∷ b ∷ c ∷ d ∷ e ∷ []) = plain a b c d e
  five-plain says plain _ = tt

  six-plain : (says : List ℕ → List ℕ → List ℕ → List ℕ → List ℕ → List ℕ → Result Said FaultKind) → ((a b c d e f : List ℕ) → IfOk (says a b c d e f) (IsPlain v)) → (words : List (List ℕ)) → IfOk (of_six_words says words) (IsPlain v)
  six-plain says plain (a ∷ b ∷ c ∷ d ∷ e ∷ f ∷ []) = plain a b c d e f
  six-plain says plain _ = tt

  alone-plain : (s : Said) → (IsPlain v) s → (words : List (List ℕ)) → IfOk (one_word_said s words) (IsPlain v)
  alone-plain s is [] = is
  alone-plain s is (a ∷ rest) = tt

  span-plain : (first last : List ℕ) → IfOk (span_said first last) (IsPlain v)
  span-plain first last = then (IsPlain v) (number_said first) _ (λ x1. then (IsPlain v) (number_said last) _ (λ x2. tt))

  ranks-plain : (word : List ℕ) → IfOk (ranks_said word) (IsPlain v)
  ranks-plain word = either (IsPlain v) (dash_of word == length word) _ _ (span-plain word word) (span-plain (take (dash_of word) word) (drop (dash_of word + 1) word))

  ue-plain : (words : List (List ℕ)) → IfOk (ue_said words) (IsPlain v)
  ue-plain [] = tt
  ue-plain (a ∷ []) = ranks-plain a
  ue-plain (a ∷ b ∷ rest) = tt

  send-plain : (words : List (List ℕ)) → IfOk (send_said words) (IsPlain v)
  send-plain words = two-plain send_words (λ a b. then (IsPlain v) (peer_said a) _ (λ x1. then (IsPlain v) (name_said b) _ (λ x2. tt))) words

  post-plain : (words : List (List ℕ)) → IfOk (post_said words) (IsPlain v)
  post-plain words = two-plain post_words (λ a b. then (IsPlain v) (peer_said a) _ (λ x1. then (IsPlain v) (name_said b) _ (λ x2. tt))) words

  recv-plain : (words : List (List ℕ)) → IfOk (recv_said words) (IsPlain v)
  recv-plain words = three-plain recv_words (λ a b c. then (IsPlain v) (peer_said a) _ (λ x1. then (IsPlain v) (number_said c) _ (λ x2. then (IsPlain v) (name_said b) _ (λ x3. tt)))) words

  barrier-plain : (words : List (List ℕ)) → IfOk (barrier_said words) (IsPlain v)
  barrier-plain [] = tt
  barrier-plain (a ∷ []) = then (IsPlain v) (number_said a) _ (λ x1. tt)
  barrier-plain (a ∷ b ∷ rest) = tt

  -- version 1 has splits of the world alone
  split-by : (w : Version) → w ≡ v → (words : List (List ℕ)) → IfOk (split_said w words) (IsPlain v)
  split-by version.One is (a ∷ b ∷ c ∷ []) = then (IsPlain v) (colour_said b) _ (λ x1. then (IsPlain v) (number_said a) _ (λ x2. then (IsPlain v) (range_said 1 48 c) _ (λ x3. λ one. refl)))
  split-by version.One is _ = tt
  split-by version.Two is (a ∷ b ∷ c ∷ []) = then (IsPlain v) (colour_said b) _ (λ x1. then (IsPlain v) (number_said a) _ (λ x2. then (IsPlain v) (range_said 1 48 c) _ (λ x3. λ one. refl)))
  split-by version.Two is (a ∷ b ∷ c ∷ d ∷ e ∷ []) =
      then (IsPlain v) (of_said b) _ (λ x1. then (IsPlain v) (colour_said d) _ (λ x2. then (IsPlain v) (number_said a) _ (λ x3. then (IsPlain v) (number_said c) _ (λ x4. then (IsPlain v) (range_said 1 48 e) _ (λ x5. λ one. absurd (let both : version.Two ≡ version.One = is ∙ one in cc))))))
  split-by version.Two is _ = tt

  split-plain : (words : List (List ℕ)) → IfOk (split_said v words) (IsPlain v)
  split-plain words = split-by v refl words

  bcast-plain : (words : List (List ℕ)) → IfOk (bcast_said words) (IsPlain v)
  bcast-plain words = four-plain bcast_words (λ a b c d. then (IsPlain v) (number_said a) _ (λ x1. then (IsPlain v) (number_said b) _ (λ x2. then (IsPlain v) (number_said d) _ (λ x3. then (IsPlain v) (name_said c) _ (λ x4. tt))))) words

  reduce-plain : (words : List (List ℕ)) → IfOk (reduce_said words) (IsPlain v)
  reduce-plain words = six-plain reduce_words (λ a b c d e f. then (IsPlain v) (operation_said c) _ (λ x1. then (IsPlain v) (type_said d) _ (λ x2. then (IsPlain v) (number_said a) _ (λ x3. then (IsPlain v) (number_said b) _ (λ x4. then (IsPlain v) (name_said e) _ (λ x5. then (IsPlain v) (name_said f) _ (λ x6. tt))))))) words

  allreduce-plain : (words : List (List ℕ)) → IfOk (allreduce_said words) (IsPlain v)
  allreduce-plain words = five-plain allreduce_words (λ a b c d e. then (IsPlain v) (operation_said b) _ (λ x1. then (IsPlain v) (type_said c) _ (λ x2. then (IsPlain v) (number_said a) _ (λ x3. then (IsPlain v) (name_said d) _ (λ x4. then (IsPlain v) (name_said e) _ (λ x5. tt)))))) words

  ranged : (low high number : ℕ) (b : Bool) → (nat_le low number && nat_le number high) ≡ b → IfOk (cond b (Ok number) (Err kind.BadNumber)) (λ n. low ≤ n)
  ranged low high number true is = leb-true low number (and_parts (nat_le low number) (nat_le number high) is).0
  ranged low high number false is = tt

  repeat-plain : (words : List (List ℕ)) → IfOk (repeat_said words) (IsPlain v)
  repeat-plain [] = tt
  repeat-plain (a ∷ []) = afterwards (λ n. 1 ≤ n) (IsPlain v) (range_said 1 most_operations a) _ (then (λ n. 1 ≤ n) (number_said a) _ (λ n. ranged 1 most_operations n (nat_le 1 n && nat_le n most_operations) refl)) (λ n is. is)
  repeat-plain (a ∷ b ∷ rest) = tt

  rcce-plain : (words : List (List ℕ)) → IfOk (rcce_said v words) (IsPlain v)
  rcce-plain [] = tt
  rcce-plain (a ∷ []) = then (IsPlain v) (range_said (version_number v) (version_number v) a) _ (λ x1. tt)
  rcce-plain (a ∷ b ∷ rest) = tt

  section-plain : (first : List ℕ) (words : List (List ℕ)) → IfOk (section_said first words) (IsPlain v)
  section-plain first words =
      either (IsPlain v) (bytes_eq first (codes "all")) _ _ (alone-plain (said.Section section.All) tt words)
      (either (IsPlain v) (bytes_eq first (codes "even")) _ _ (alone-plain (said.Section section.Even) tt words)
      (either (IsPlain v) (bytes_eq first (codes "odd")) _ _ (alone-plain (said.Section section.Odd) tt words)
      (either (IsPlain v) (bytes_eq first (codes "ue")) _ _ (ue-plain words)
      (either (IsPlain v) (bytes_eq first (codes "repeat")) _ _ (repeat-plain words)
      (either (IsPlain v) (bytes_eq first (codes "end")) _ _ (alone-plain said.End tt words)
      (tt))))))

  group-plain : (first : List ℕ) (words : List (List ℕ)) → IfOk (group_said v first words) (IsPlain v)
  group-plain first words =
      either (IsPlain v) (bytes_eq first (codes "barrier")) _ _ (barrier-plain words)
      (either (IsPlain v) (bytes_eq first (codes "split")) _ _ (split-plain words)
      (either (IsPlain v) (bytes_eq first (codes "bcast")) _ _ (bcast-plain words)
      (either (IsPlain v) (bytes_eq first (codes "reduce")) _ _ (reduce-plain words)
      (either (IsPlain v) (bytes_eq first (codes "allreduce")) _ _ (allreduce-plain words)
      (section-plain first words)))))

  -- a statement that a rank does by itself is plain, whatever its words are
  register-by : (first : List ℕ) (words : List (List ℕ)) (o : Option LocalWord) → IfOk (register_said_by v first words o) (IsPlain v)
  register-by first words None = group-plain first words
  register-by first words (Some word) = then (IsPlain v) (local_said word words) _ (λ l. tt)

  register-plain : (first : List ℕ) (words : List (List ℕ)) → IfOk (register_said v first words) (IsPlain v)
  register-plain first words = register-by first words (local_word first)

  pub said-plain : (opening : Bool) (first : List ℕ) (words : List (List ℕ)) → IfOk (said_of v opening first words) (IsPlain v)
  said-plain opening first words =
      either (IsPlain v) (bytes_eq first (codes "send")) _ _ (send-plain words)
      (either (IsPlain v) (bytes_eq first (codes "post")) _ _ (post-plain words)
      (either (IsPlain v) (bytes_eq first (codes "recv")) _ _ (recv-plain words)
      (either (IsPlain v) (opening && bytes_eq first (codes "rcce")) _ _ (rcce-plain words)
      (register-plain first words))))

-- the lines so far are of version 1, and their splits take apart the world
abbrev IsFlat : ReadingSoFar → Type 0
IsFlat p = (p.version ≡ version.One) × ((comm : ℕ) → parent_of (first_split p.items comm) ≡ 0)

place-flat : (line : ℕ) (p : ReadingSoFar) (s : Stmt) → IsFlat p → ((comm : ℕ) → parent_of (split_rule (effect_of s).group comm) ≡ 0) → IfOk (place line p s) IsFlat
place-flat line p s flat is =
    then IsFlat (section_or_fault p (effect_of s)) _ (λ who.
    let item : Item = record { line = line; who = who; stmt = s } in
    (flat.0, λ comm. ap parent_of (first_split-more p.items item comm) ∙ or_rule-either (λ (r : CommRule). parent_of r ≡ 0) (first_split p.items comm) (split_rule (effect_of s).group comm) (flat.1 comm) (is comm)))

open-flat : (p : ReadingSoFar) (ranks : Who) → IsFlat p → IfOk (open_section p ranks) IsFlat
open-flat p ranks flat = either IsFlat (length (open_of (past p)) == 0) (Ok (record p { section = Some ranks })) (Err kind.UnclosedRepeat) flat tt

section-flat : (p : ReadingSoFar) (s : Section) → IsFlat p → IfOk (after_section p s) IsFlat
section-flat p section.All flat = open-flat p who.All flat
section-flat p section.Even flat = open-flat p who.Even flat
section-flat p section.Odd flat = open-flat p who.Odd flat
section-flat p (section.Span first last) flat = then IsFlat (rank_said p.nue first) _ (λ a. then IsFlat (rank_said p.nue last) _ (λ b. either IsFlat (nat_lt b a) (Err kind.RankRange) (open_section p (who.Span a b)) tt (open-flat p (who.Span a b) flat)))

-- a statement of the rank's own splits nothing
local-world : (names : List (List ℕ)) (l : Local) (comm : ℕ) → parent_of (split_rule (effect_of (local_numbered names l).statement).group comm) ≡ 0
local-world names (local.Bytes name bytes) comm = refl
local-world names _ comm = refl

local-flat : (line : ℕ) (p : ReadingSoFar) (l : Local) → IsFlat p → IfOk (after_local line p l) IsFlat
local-flat line p l flat = place-flat line (record p { names = (local_numbered p.names l).names }) (local_numbered p.names l).statement flat (local-world p.names l)

message-flat : (line : ℕ) (p : ReadingSoFar) (s : Message) → IsFlat p → IfOk (after_message line p s) IsFlat
message-flat line p (message.Send peer name) flat = then IsFlat (peer_in p.nue peer) _ (λ other. place-flat line (with_known_name p name) (stmt.Send other (register_of p.names name)) flat (λ comm. refl))
message-flat line p (message.Post peer name) flat = then IsFlat (peer_in p.nue peer) _ (λ other. place-flat line (with_known_name p name) (stmt.Post other (register_of p.names name)) flat (λ comm. refl))
message-flat line p (message.Recv peer name len) flat = then IsFlat (peer_in p.nue peer) _ (λ other. place-flat line (with_known_name p name) (stmt.Recv other (register_of p.names name) len) flat (λ comm. refl))

parent-said : (how : Colour) (parent parts : ℕ) → parent_of (rule_said how parent parts) ≡ parent
parent-said colour.Mod parent parts = refl
parent-said colour.Div parent parts = refl

parent-split : (b : Bool) (r : CommRule) → parent_of r ≡ 0 → parent_of (cond b r rule.Absent) ≡ 0
parent-split true r is = is
parent-split false r is = refl

group-flat : (line : ℕ) (p : ReadingSoFar) (s : Collective) → IsPlain version.One (said.Collective s) → IsFlat p → IfOk (after_group line p s) IsFlat
group-flat line p (group.Barrier comm) is flat = place-flat line p (stmt.Barrier (small comm)) flat (λ comm. refl)
group-flat line p (group.Split comm parent how parts) is flat =
    place-flat line p (stmt.Split (small comm) (rule_said how (small parent) parts)) flat (λ other. parent-split (small comm == other) (rule_said how (small parent) parts) (parent-said how (small parent) parts ∙ ap small (is refl)))
group-flat line p (group.Bcast comm root name len) is flat = place-flat line (with_known_name p name) (stmt.Bcast (small comm) (small root) (register_of p.names name) len) flat (λ comm. refl)
group-flat line p (group.Reduce comm root op ty dst src) is flat = place-flat line (with_known_name (with_known_name p dst) src) (stmt.Reduce (small comm) (small root) op ty (register_of p.names dst) (register_of (with_known_name p dst).names src)) flat (λ comm. refl)
group-flat line p (group.Allreduce comm op ty dst src) is flat = place-flat line (with_known_name (with_known_name p dst) src) (stmt.Allreduce (small comm) op ty (register_of p.names dst) (register_of (with_known_name p dst).names src)) flat (λ comm. refl)

after-flat : (line : ℕ) (p : ReadingSoFar) (s : Said) → IsPlain version.One s → IsFlat p → IfOk (after_script_line line p s) IsFlat
after-flat line p said.Version is flat = flat
after-flat line p (said.Section s) is flat = section-flat p s flat
after-flat line p (said.Local s) is flat = local-flat line p s flat
after-flat line p (said.Message s) is flat = message-flat line p s flat
after-flat line p (said.Collective s) is flat = group-flat line p s is flat
after-flat line p (said.Repeat times) is flat = place-flat line p (stmt.Repeat times 0) flat (λ comm. refl)
after-flat line p said.End is flat = place-flat line p (stmt.End (innermost (open_of (past p)))) flat (λ comm. refl)

words-flat : (number : ℕ) (p : ReadingSoFar) (words : List (List ℕ)) → IsFlat p → IfOk (read_words number p words) IsFlat
words-flat number p [] flat = flat
words-flat number p (first ∷ words) flat =
    afterwards (IsPlain version.One) IsFlat (said_of p.version p.opening first words) _
    (subst (λ (v : Version). IfOk (said_of v p.opening first words) (IsPlain version.One)) (sym flat.0) (said-plain version.One p.opening first words))
    (λ s is. after-flat number (past_opening p) s is flat)

line-flat : (number : ℕ) (p : ReadingSoFar) (line : List ℕ) → IsFlat p → IfOk (read_line number p line) IsFlat
line-flat number p line flat = either IsFlat (is_text line) (read_words number p (words_of line)) (Err kind.NotText) (words-flat number p (words_of line) flat) tt

at_line-flat : (number : ℕ) (r : Result ReadingSoFar FaultKind) → IfOk r IsFlat → IfOk (at_line number r) IsFlat
at_line-flat number (Ok p) flat = flat
at_line-flat number (Err kind) flat = tt

lines-flat : (before : ℕ) (p : ReadingSoFar) (lines : List (List ℕ)) → IsFlat p → IfOk (read_lines before p lines) IsFlat
lines-flat before p [] flat = flat
lines-flat before p (line ∷ lines) flat =
    afterwards IsFlat IsFlat (at_line (before + 1) (read_line (before + 1) p line)) _ (at_line-flat (before + 1) (read_line (before + 1) p line) (line-flat (before + 1) p line flat))
    (λ q is. lines-flat (before + 1) q lines is)

rule-flat : (items : List Item) (comm : ℕ) → ((comm : ℕ) → parent_of (first_split items comm) ≡ 0) → parent_of (rule_of (rules_of items) comm) ≡ 0
rule-flat items zero flat = refl
rule-flat items (suc c) flat =
    elim (cases_lt (suc c) 16) [
      | inl below ↦ ap parent_of (split-at items (suc c) (omega arith) below) ∙ flat (suc c)
      | inr past ↦ ap parent_of (get_or_past (rules_of items) (suc c) rule.Absent (omega (arith, past, length-map-range_with_len (first_split items) 1 15)))
    ]

end-flat : (count : ℕ) (p : ReadingSoFar) → IsFlat p → IfOk (at_end count p) SplitsWorldAlone
end-flat count p flat =
    either SplitsWorldAlone (length (open_of (past p)) == 0) (Ok (script_of p)) _ (λ comm. ap (λ (rules : List CommRule). parent_of (rule_of rules comm)) (rules-with_ends (length p.items) p.items) ∙ rule-flat p.items comm flat.1) tt

all-flat : (lines : List (List ℕ)) (nue : ℕ) → IfOk (read_all_lines version.One lines nue) SplitsWorldAlone
all-flat lines nue = afterwards IsFlat SplitsWorldAlone (read_lines 0 (start version.One nue) lines) _ (lines-flat 0 (start version.One nue) lines (refl, λ comm. refl)) (λ p flat. end-flat (line_count lines) p flat)

-- a script of version 1 splits the world alone
pub first-flat : (bytes : List ℕ) (nue : ℕ) → IfOk (read_as version.One bytes nue) SplitsWorldAlone
first-flat bytes nue = either SplitsWorldAlone (nat_lt most_script_bytes (length bytes)) _ _ tt (all-flat (lines_of bytes) nue)

-- what a reading gives has what the script has that the grammar gives
pub IfOk-given : (P : Script → Type 0) (r : Result Script ReadStop) (meant : Result Script ReadFault) → Gives (λ script. script) r meant → IfOk meant P → IfOk r P
IfOk-given P (Ok script) meant gives is = subst (λ (m : Result Script ReadFault). IfOk m P) gives is
IfOk-given P (Err (stop.Fault fault)) meant gives is = tt
IfOk-given P (Err stop.Memory) meant gives is = tt
