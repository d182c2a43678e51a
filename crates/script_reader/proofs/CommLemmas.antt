-- No statement of a script that was read names a communicator past the last one of its version.
use Rattle.std.proofs.Common.{◌≡◌, ◌≤◌, ℕ, Bool, true, false, List, [], ◌∷◌, All, Some, None, Option, Result, Ok, Err, length, refl, arith, subst}
use Rattle.std.proofs.lemmas.Bool.{ltb-false}
use Rattle.std.proofs.lemmas.List.Elements.{All-append, All-cons, All-nil}
use Rattle.std.specs.Option.{ok_or, option_map_or}
use Rattle.std.specs.Prelude.{◌+◌, ◌==◌, ◌||◌, IfOk, nat_lt}
use Rattle.scc_base.specs.Setups.{SetupView}
use Rattle.script_rules.specs.declared.effect.Effect.{Effect}
use Rattle.script_rules.specs.declared.effect.Group.{Group}
use Rattle.script_rules.specs.declared.effect.Group.TheVariants as comms
use Rattle.script_rules.specs.declared.fault.FaultKind.{FaultKind}
use Rattle.script_rules.specs.declared.fault.FaultKind.TheVariants as kind
use Rattle.script_reader.specs.declared.said.Collective.{Collective}
use Rattle.script_reader.specs.declared.said.Collective.TheVariants as group
use Rattle.script_reader.specs.declared.said.Local.{Local}
use Rattle.script_reader.specs.declared.said.Message.{Message}
use Rattle.script_reader.specs.declared.said.Message.TheVariants as message
use Rattle.script_reader.specs.declared.said.Said.{Said}
use Rattle.script_reader.specs.declared.said.Said.TheVariants as said
use Rattle.script_reader.specs.declared.said.Section.{Section}
use Rattle.script_reader.specs.declared.said.Section.TheVariants as section
use Rattle.script_rules.specs.declared.script.Item.{Item}
use Rattle.script_rules.specs.declared.script.Stmt.{Stmt}
use Rattle.script_rules.specs.declared.script.Stmt.TheVariants as stmt
use Rattle.script_rules.specs.declared.script.Who.{Who}
use Rattle.script_rules.specs.declared.script.Who.TheVariants as who
use Rattle.script_rules.specs.declared.version.Version.{Version}
use Rattle.script_rules.specs.Checks.{innermost, is_badly_split, is_unknown, last_comm, open_of, run_of}
use Rattle.script_rules.specs.Effects.{comm_named, effect_of}
use Rattle.script_reader.specs.Faults.{◌>>=◌}
use Rattle.script_reader.specs.Progress.{ReadingSoFar, after_script_line, after_group, after_local, after_message, after_section, section_or_fault, first_fault, local_numbered, with_known_name, open_section, past, peer_in, place, rank_said, register_of, rule_said, small, start}
use Rattle.script_reader.specs.Reading.{at_end, at_line, past_opening, most_script_bytes, read_all_lines, read_as, read_file, read_line, read_lines, read_words, script_of, version_of}
use Rattle.script_reader.specs.Said.{said_of}
use Rattle.script_rules.specs.Settled.{NamesCommsTo}
use Rattle.texts.specs.Cuts.{is_text, line_count, lines_of, words_of}
use Rattle.script_rules.proofs.EndLemmas.{comms-with_ends}
use Rattle.script_reader.proofs.FaultLemmas.{no-fault}
use Rattle.script_reader.proofs.VersionLemmas.{afterwards, either, then}

-- a communicator that is known is none past the last one
low-split : (a b : Bool) → (a || b) ≡ false → a ≡ false
low-split true b is = absurd (cc)
low-split false b is = refl

known-low : (v : Version) (run : SetupView) (g : Group) → is_unknown v run g ≡ false → comm_named g ≤ last_comm v
known-low v run comms.World is = omega arith
known-low v run (comms.Of comm) is = ltb-false (last_comm v) comm is
known-low v run (comms.Split comm rule) is = ltb-false (last_comm v) comm (low-split (nat_lt (last_comm v) comm) (is_badly_split run comm rule) is)

-- what has a fault is not placed
placed-well : (P : ReadingSoFar → Type 0) (p : ReadingSoFar) (e : Effect) (next : Who → Result ReadingSoFar FaultKind)
    → (first_fault p e ≡ None → (who : Who) → IfOk (next who) P) → IfOk (section_or_fault p e >>= next) P
placed-well P p e next each = by (first_fault p e) refl (ok_or p.section kind.NoSection)
  where
    by : (fault : Option FaultKind) → first_fault p e ≡ fault → (section : Result Who FaultKind) → IfOk (option_map_or Err fault section >>= next) P
    by (Some fault) is section = tt
    by None is (Err fault) = tt
    by None is (Ok who) = each is who

module _ (v : Version) where
  -- an item names no communicator past the last one of the version
  abbrev IsLowItem : Item → Type 0
  IsLowItem item = comm_named (effect_of item.stmt).group ≤ last_comm v

  -- the lines so far are of this version, and name no communicator past its last one
  abbrev IsLow : ReadingSoFar → Type 0
  IsLow p = (p.version ≡ v) × All IsLowItem p.items

  place-low : (line : ℕ) (p : ReadingSoFar) (s : Stmt) → IsLow p → IfOk (place line p s) IsLow
  place-low line p s low =
      placed-well IsLow p (effect_of s) _ (λ none who.
      let known = known-low p.version (run_of p.nue (past p)) (effect_of s).group (no-fault p (effect_of s) none).unknown in
      let item : Item = record { line = line; who = who; stmt = s } in
      let here : comm_named (effect_of s).group ≤ last_comm v = subst (λ (w : Version). comm_named (effect_of s).group ≤ last_comm w) low.0 known in
      (low.0, All-append IsLowItem p.items (item ∷ []) low.1 (All-cons IsLowItem item [] here (All-nil IsLowItem))))

  open-low : (p : ReadingSoFar) (ranks : Who) → IsLow p → IfOk (open_section p ranks) IsLow
  open-low p ranks low = either IsLow (length (open_of (past p)) == 0) (Ok (record p { section = Some ranks })) (Err kind.UnclosedRepeat) low tt

  section-low : (p : ReadingSoFar) (s : Section) → IsLow p → IfOk (after_section p s) IsLow
  section-low p section.All low = open-low p who.All low
  section-low p section.Even low = open-low p who.Even low
  section-low p section.Odd low = open-low p who.Odd low
  section-low p (section.Span first last) low = then IsLow (rank_said p.nue first) _ (λ a. then IsLow (rank_said p.nue last) _ (λ b. either IsLow (nat_lt b a) (Err kind.RankRange) (open_section p (who.Span a b)) tt (open-low p (who.Span a b) low)))

  local-low : (line : ℕ) (p : ReadingSoFar) (l : Local) → IsLow p → IfOk (after_local line p l) IsLow
  local-low line p l low = place-low line (record p { names = (local_numbered p.names l).names }) (local_numbered p.names l).statement low

  message-low : (line : ℕ) (p : ReadingSoFar) (s : Message) → IsLow p → IfOk (after_message line p s) IsLow
  message-low line p (message.Send peer name) low = then IsLow (peer_in p.nue peer) _ (λ other. place-low line (with_known_name p name) (stmt.Send other (register_of p.names name)) low)
  message-low line p (message.Post peer name) low = then IsLow (peer_in p.nue peer) _ (λ other. place-low line (with_known_name p name) (stmt.Post other (register_of p.names name)) low)
  message-low line p (message.Recv peer name len) low = then IsLow (peer_in p.nue peer) _ (λ other. place-low line (with_known_name p name) (stmt.Recv other (register_of p.names name) len) low)

  group-low : (line : ℕ) (p : ReadingSoFar) (s : Collective) → IsLow p → IfOk (after_group line p s) IsLow
  group-low line p (group.Barrier comm) low = place-low line p (stmt.Barrier (small comm)) low
  group-low line p (group.Split comm parent how parts) low = place-low line p (stmt.Split (small comm) (rule_said how (small parent) parts)) low
  group-low line p (group.Bcast comm root name len) low = place-low line (with_known_name p name) (stmt.Bcast (small comm) (small root) (register_of p.names name) len) low
  group-low line p (group.Reduce comm root op ty dst src) low = place-low line (with_known_name (with_known_name p dst) src) (stmt.Reduce (small comm) (small root) op ty (register_of p.names dst) (register_of (with_known_name p dst).names src)) low
  group-low line p (group.Allreduce comm op ty dst src) low = place-low line (with_known_name (with_known_name p dst) src) (stmt.Allreduce (small comm) op ty (register_of p.names dst) (register_of (with_known_name p dst).names src)) low

  after-low : (line : ℕ) (p : ReadingSoFar) (s : Said) → IsLow p → IfOk (after_script_line line p s) IsLow
  after-low line p said.Version low = low
  after-low line p (said.Section s) low = section-low p s low
  after-low line p (said.Local s) low = local-low line p s low
  after-low line p (said.Message s) low = message-low line p s low
  after-low line p (said.Collective s) low = group-low line p s low
  after-low line p (said.Repeat times) low = place-low line p (stmt.Repeat times 0) low
  after-low line p said.End low = place-low line p (stmt.End (innermost (open_of (past p)))) low

  words-low : (number : ℕ) (p : ReadingSoFar) (words : List (List ℕ)) → IsLow p → IfOk (read_words number p words) IsLow
  words-low number p [] low = low
  words-low number p (first ∷ words) low = then IsLow (said_of p.version p.opening first words) _ (λ s. after-low number (past_opening p) s low)

  line-low : (number : ℕ) (p : ReadingSoFar) (line : List ℕ) → IsLow p → IfOk (read_line number p line) IsLow
  line-low number p line low = either IsLow (is_text line) (read_words number p (words_of line)) (Err kind.NotText) (words-low number p (words_of line) low) tt

  at_line-low : (number : ℕ) (r : Result ReadingSoFar FaultKind) → IfOk r IsLow → IfOk (at_line number r) IsLow
  at_line-low number (Ok p) low = low
  at_line-low number (Err kind) low = tt

  lines-low : (before : ℕ) (p : ReadingSoFar) (lines : List (List ℕ)) → IsLow p → IfOk (read_lines before p lines) IsLow
  lines-low before p [] low = low
  lines-low before p (line ∷ lines) low =
      afterwards IsLow IsLow (at_line (before + 1) (read_line (before + 1) p line)) _ (at_line-low (before + 1) (read_line (before + 1) p line) (line-low (before + 1) p line low))
      (λ q is. lines-low (before + 1) q lines is)

  end-low : (count : ℕ) (p : ReadingSoFar) → IsLow p → IfOk (at_end count p) (NamesCommsTo (last_comm v))
  end-low count p low =
      either (NamesCommsTo (last_comm v)) (length (open_of (past p)) == 0) (Ok (script_of p)) _ (comms-with_ends (last_comm v) (length p.items) p.items low.1) tt

  all-low : (lines : List (List ℕ)) (nue : ℕ) → IfOk (read_all_lines v lines nue) (NamesCommsTo (last_comm v))
  all-low lines nue = afterwards IsLow (NamesCommsTo (last_comm v)) (read_lines 0 (start v nue) lines) _ (lines-low 0 (start v nue) lines (refl, All-nil IsLowItem)) (λ p low. end-low (line_count lines) p low)

  as-low : (bytes : List ℕ) (nue : ℕ) → IfOk (read_as v bytes nue) (NamesCommsTo (last_comm v))
  as-low bytes nue = either (NamesCommsTo (last_comm v)) (nat_lt most_script_bytes (length bytes)) _ _ tt (all-low (lines_of bytes) nue)

-- a file
pub names-low : (bytes : List ℕ) (nue : ℕ) → IfOk (read_file bytes nue) (NamesCommsTo (last_comm (version_of (lines_of bytes))))
names-low bytes nue = as-low (version_of (lines_of bytes)) bytes nue
