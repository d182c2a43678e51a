-- What loads of the lines of a barrier's flags are to the record of a rank that looks there.
use Rattle.std.proofs.Common.{◌≡◌, ◌≢◌, ℕ, zero, suc, ◌+◌, ◌*◌, ◌/◌, ◌%◌, ◌<◌, ◌≤◌, Bool, true, false, not, ◌&&◌, ◌==◌, nat_lt, if◌then◌else◌, List, [], ◌∷◌, ◌++◌, slice_index, refl, sym, ◌∙◌, ap, subst, arith}
use Rattle.scc_base.specs.Calls.{DataCall, Bar}
use Rattle.scc_base.specs.Places.{WordAt, LineAt, line_of_word, word_of_line}
use Rattle.scc_base.specs.Layouts.{first_gather, first_release}
use Rattle.scc_base.specs.Setups.{SetupView, IsSetup, place_of, setup_key, IsMemberAt}
use Rattle.scc_base.specs.Communicators.{rule_of}
use Rattle.scc_base.specs.declared.communicators.CommRule.{CommRule}
use Rattle.scc_base.specs.declared.communicators.CommRule.TheVariants.{Absent, World, Mod, Div}
use Rattle.scc_base.specs.Events.{load_of}
use Rattle.scc_base.specs.declared.events.Event.{Event}
use Rattle.scc_proto.specs.Stages.{Stage, Idle, Barrier, Record}
use Rattle.scc_proto.specs.Moves.{Move, LookGather, LookRelease, NoMove, look_gather, look_release, calls_let_go, after}
use Rattle.scc_proto.specs.Words.{GatherFlag, ReleaseFlag, IdleWord, is_present, is_present_rule}
use Rattle.scc_proto.specs.Records.{chunk_of, leads, load_by}
use Rattle.scc_proto.specs.Ports.{Seat, record_next, record_on}
use Rattle.scc_proto.proofs.Tests.{eqb_same, eqb_other}
use Rattle.scc_proto.proofs.Layouts.Roles.{if_no, lt_yes, lt_is, lt_not, first_release-is, first_chunk-is, role_gather, role_release, role_gather_any, role_release_any, role_spare_barrier}
use Rattle.scc_proto.proofs.Layouts.PlaceMoves.{Makes, load_moves, idle_loaded, gather_loaded, release_loaded}
use Rattle.put_get.specs.Accesses.{loads_of}
use Rattle.barrier.specs.Flags.{gather_word, release_word}

-- ---- groups

rule_present : (rule : CommRule) → rule ≢ Absent → is_present_rule rule ≡ true
rule_present Absent h = absurd (h refl)
rule_present World h = refl
rule_present (Mod parent k) h = refl
rule_present (Div parent k) h = refl

pub present_is : (s : SetupView) (comm : ℕ) → comm < 16 → rule_of s.comms comm ≢ Absent → is_present s comm ≡ true
present_is s comm lt h = λ i. lt_yes comm 16 lt i && rule_present (rule_of s.comms comm) h i

pub root_leads : (s : SetupView) (comm me i m : ℕ) → IsMemberAt s comm me i m → place_of s comm me ≡ 0 → leads s comm me m ≡ true
root_leads s comm me i m at root =
    (λ j. (at.grouped j == setup_key s comm me) && (root j == 0)) ∙ (λ j. eqb_same (setup_key s comm me) j && true)

pub member_follows : (s : SetupView) (comm me : ℕ) → place_of s comm me ≢ 0 → leads s comm me me ≡ false
member_follows s comm me h =
    (λ j. eqb_same (setup_key s comm me) j && (place_of s comm me == 0)) ∙ eqb_other (place_of s comm me) 0 h

-- ---- looks of another communicator

-- a barrier of this communicator is open, or nothing is
pub data IsIn (comm : ℕ) (stage : Stage) : Type 0 where
  InBarrier : (seen released : ℕ) → stage ≡ Barrier comm seen released → IsIn comm stage
  InNone : stage ≡ Idle → IsIn comm stage

gather_other : (comm c place value v : ℕ) (stage : Stage) → c ≢ comm → IsIn comm stage → look_gather c place value v stage ≡ stage
gather_other comm c place value v stage other (InBarrier seen released e) =
    ap (λ (s : Stage). look_gather c place value v s) e
    ∙ if_no ((comm == c) && ((place == suc seen) && (value == v))) (Barrier comm (suc seen) released) (Barrier comm seen released)
    (λ i. eqb_other comm c (λ q. other (sym q)) i && ((place == suc seen) && (value == v))) ∙ sym e
gather_other comm c place value v stage other (InNone e) = ap (λ (s : Stage). look_gather c place value v s) e ∙ sym e

release_other : (comm c value v : ℕ) (stage : Stage) → c ≢ comm → IsIn comm stage → look_release c value v stage ≡ stage
release_other comm c value v stage other (InBarrier seen released e) =
    ap (λ (s : Stage). look_release c value v s) e
    ∙ if_no ((comm == c) && (value == v)) Idle (Barrier comm seen released)
    (λ i. eqb_other comm c (λ q. other (sym q)) i && (value == v)) ∙ sym e
release_other comm c value v stage other (InNone e) = ap (λ (s : Stage). look_release c value v s) e ∙ sym e

calls_other : (comm c value v : ℕ) (stage : Stage) (calls : List DataCall) → c ≢ comm → IsIn comm stage → calls_let_go c value v stage calls ≡ calls
calls_other comm c value v stage calls other (InBarrier seen released e) =
    ap (λ (s : Stage). calls_let_go c value v s calls) e
    ∙ if_no ((comm == c) && (value == v)) (calls ++ Bar comm ∷ []) calls
    (λ i. eqb_other comm c (λ q. other (sym q)) i && (value == v))
calls_other comm c value v stage calls other (InNone e) = ap (λ (s : Stage). calls_let_go c value v s calls) e

gather_kept : (size comm c from place value : ℕ) (rec : Record) → c ≢ comm → IsIn comm rec.stage → after size (LookGather c from place value) rec ≡ rec
gather_kept size comm c from place value rec other at = λ i. record rec { stage = gather_other comm c place value (rec.flips c % 2) rec.stage other at i }

release_kept : (size comm c value : ℕ) (rec : Record) → c ≢ comm → IsIn comm rec.stage → after size (LookRelease c value) rec ≡ rec
release_kept size comm c value rec other at = λ i. record rec {
  stage = release_other comm c value (rec.flips c % 2) rec.stage other at i;
  calls = calls_other comm c value (rec.flips c % 2) rec.stage rec.calls other at i;
}

pub makes_kept : {seat : Seat} {rec late now : Record} {e : Event} → Makes seat rec e late → late ≡ now → Makes seat rec e now
makes_kept m e = record { may = m.may; becomes = m.becomes ∙ e }

look_or_none : (size : ℕ) (b : Bool) (move : Move) (rec : Record) → after size move rec ≡ rec → after size (if b then move else NoMove) rec ≡ rec
look_or_none size true move rec e = e
look_or_none size false move rec e = refl

module _ (seat : Seat) (rec : Record) (valid : IsSetup seat.setup) (comm r : ℕ) (small : comm < 16) (lt : r < seat.setup.nue) (at : IsIn comm rec.stage) where
  gather_of : (c value : ℕ) → c < 16 → c ≢ comm → (b : Bool) → is_present seat.setup c ≡ b → Makes seat rec (load_of (gather_word seat c r) value) rec
  gather_of c value low other true e = makes_kept
      (load_moves seat rec (gather_word seat c r) value (GatherFlag c r) (load_by seat.setup seat.rank value (GatherFlag c r)) (role_gather seat.setup valid c r e lt) refl)
      (look_or_none (chunk_of seat.setup) (leads seat.setup c seat.rank r) (LookGather c r (place_of seat.setup c r) value) rec
      (gather_kept (chunk_of seat.setup) comm c r (place_of seat.setup c r) value rec other at))
  gather_of c value low other false e = idle_loaded seat rec (gather_word seat c r) value
      (role_gather_any seat.setup valid c r low lt ∙ if_no (is_present seat.setup c) (GatherFlag c r) IdleWord e)

  release_of : (c value : ℕ) → c < 16 → c ≢ comm → (b : Bool) → is_present seat.setup c ≡ b → Makes seat rec (load_of (release_word seat c r) value) rec
  release_of c value low other true e = makes_kept
      (load_moves seat rec (release_word seat c r) value (ReleaseFlag c r) (load_by seat.setup seat.rank value (ReleaseFlag c r)) (role_release seat.setup valid c r e lt) refl)
      (look_or_none (chunk_of seat.setup) ((r == seat.rank) && not (leads seat.setup c seat.rank seat.rank)) (LookRelease c value) rec
      (release_kept (chunk_of seat.setup) comm c value rec other at))
  release_of c value low other false e = idle_loaded seat rec (release_word seat c r) value
      (role_release_any seat.setup valid c r low lt ∙ if_no (is_present seat.setup c) (ReleaseFlag c r) IdleWord e)

  -- the other words of the line of a flag: one is the flag of the communicator that shares the line, and two are spare
  other_word : (core first w value : ℕ) → w ≢ comm / 8
      → ((c : ℕ) → c < 16 → c ≢ comm → Makes seat rec (load_of (record { core = core; line = first + c % 8; word = c / 8 }) value) rec)
      → (2 ≤ w → Makes seat rec (load_of (record { core = core; line = first + comm % 8; word = w }) value) rec)
      → Makes seat rec (load_of (record { core = core; line = first + comm % 8; word = w }) value) rec
  other_word core first w value other flag spare = by (nat_lt w 2) refl
    where
      by : (b : Bool) → nat_lt w 2 ≡ b → Makes seat rec (load_of (record { core = core; line = first + comm % 8; word = w }) value) rec
      by true e =
          let low : w < 2 = lt_is w 2 e in
          let rest : (8 * w + comm % 8) % 8 ≡ comm % 8 = omega arith in
          let word : (8 * w + comm % 8) / 8 ≡ w = omega arith in
          let apart : 8 * w + comm % 8 ≢ comm = λ q. other (omega (arith, q)) in
          subst (λ (p : WordAt). Makes seat rec (load_of p value) rec) (λ i. record { core = core; line = first + rest i; word = word i })
          (flag (8 * w + comm % 8) (omega (arith, low)) apart)
      by false e = spare (lt_not w 2 e)

  pub gather_line : (w value : ℕ) → w < 4 → w ≢ comm / 8 → Makes seat rec (load_of (word_of_line (line_of_word (gather_word seat comm r)) w) value) rec
  gather_line w value four other =
      let c = first_chunk-is seat.setup.layout in
      other_word (gather_word seat comm r).core (first_gather seat.setup.layout) w value other (λ c low apart. gather_of c value low apart (is_present seat.setup c) refl)
      (λ high. idle_loaded seat rec (word_of_line (line_of_word (gather_word seat comm r)) w) value
      (role_spare_barrier seat.setup valid r (first_gather seat.setup.layout + comm % 8) w lt (omega arith) (omega (arith, c)) high))

  pub release_line : (w value : ℕ) → w < 4 → w ≢ comm / 8 → Makes seat rec (load_of (word_of_line (line_of_word (release_word seat comm r)) w) value) rec
  release_line w value four other =
      let a = first_release-is seat.setup.layout in
      let c = first_chunk-is seat.setup.layout in
      other_word (release_word seat comm r).core (first_release seat.setup.layout) w value other (λ c low apart. release_of c value low apart (is_present seat.setup c) refl)
      (λ high. idle_loaded seat rec (word_of_line (line_of_word (release_word seat comm r)) w) value
      (role_spare_barrier seat.setup valid r (first_release seat.setup.layout + comm % 8) w lt (omega (arith, a)) (omega (arith, a, c)) high))

-- ---- the flag itself

same_by : (a b : ℕ) → a ≡ b → (a == b) ≡ true
same_by a b e = ap (λ (x : ℕ). x == b) e ∙ eqb_same b

module _ (seat : Seat) (rec : Record) (valid : IsSetup seat.setup) (comm r seen value : ℕ) (present : is_present seat.setup comm ≡ true) (lt : r < seat.setup.nue)
    (root : leads seat.setup comm seat.rank r ≡ true) (placed : place_of seat.setup comm r ≡ seen + 1) (at : rec.stage ≡ Barrier comm seen 0) where
  gather_stage : (b : Bool) → (value == rec.flips comm % 2) ≡ b
      → look_gather comm (place_of seat.setup comm r) value (rec.flips comm % 2) rec.stage ≡ (if b then Barrier comm (suc seen) 0 else Barrier comm seen 0)
  gather_stage b e =
      let next : place_of seat.setup comm r ≡ suc seen = omega (arith, placed) in
      ap (λ (s : Stage). look_gather comm (place_of seat.setup comm r) value (rec.flips comm % 2) s) at
      ∙ (λ i. if eqb_same comm i && (same_by (place_of seat.setup comm r) (suc seen) next i && e i) then Barrier comm (suc seen) 0 else Barrier comm seen 0)

  pub gather_found : value ≡ rec.flips comm % 2 → Makes seat rec (load_of (gather_word seat comm r) value) (record rec { stage = Barrier comm (seen + 1) 0 })
  gather_found is =
      let next : suc seen ≡ seen + 1 = omega arith in
      let stage = gather_stage true (same_by value (rec.flips comm % 2) is) ∙ (λ i. Barrier comm (next i) 0) in
      makes_kept (gather_loaded seat rec valid comm r value present lt root) (λ i. record rec { stage = stage i })

  pub gather_failed : value ≢ rec.flips comm % 2 → Makes seat rec (load_of (gather_word seat comm r) value) rec
  gather_failed other =
      let stage = gather_stage false (eqb_other value (rec.flips comm % 2) other) ∙ sym at in
      makes_kept (gather_loaded seat rec valid comm r value present lt root) (λ i. record rec { stage = stage i })

module _ (seat : Seat) (rec : Record) (valid : IsSetup seat.setup) (comm value : ℕ) (present : is_present seat.setup comm ≡ true) (lt : seat.rank < seat.setup.nue)
    (member : leads seat.setup comm seat.rank seat.rank ≡ false) (at : rec.stage ≡ Barrier comm 0 0) where
  release_stage : (b : Bool) → (value == rec.flips comm % 2) ≡ b
      → look_release comm value (rec.flips comm % 2) rec.stage ≡ (if b then Idle else Barrier comm 0 0)
  release_stage b e = ap (λ (s : Stage). look_release comm value (rec.flips comm % 2) s) at
      ∙ (λ i. if eqb_same comm i && e i then Idle else Barrier comm 0 0)

  release_calls : (b : Bool) → (value == rec.flips comm % 2) ≡ b
      → calls_let_go comm value (rec.flips comm % 2) rec.stage rec.calls ≡ (if b then rec.calls ++ Bar comm ∷ [] else rec.calls)
  release_calls b e = ap (λ (s : Stage). calls_let_go comm value (rec.flips comm % 2) s rec.calls) at
      ∙ (λ i. if eqb_same comm i && e i then rec.calls ++ Bar comm ∷ [] else rec.calls)

  pub release_found : value ≡ rec.flips comm % 2 → Makes seat rec (load_of (release_word seat comm seat.rank) value) (record rec { stage = Idle; calls = rec.calls ++ Bar comm ∷ [] })
  release_found is =
      let stage = release_stage true (same_by value (rec.flips comm % 2) is) in
      let calls = release_calls true (same_by value (rec.flips comm % 2) is) in
      makes_kept (release_loaded seat rec valid comm value present lt member) (λ i. record rec { stage = stage i; calls = calls i })

  pub release_failed : value ≢ rec.flips comm % 2 → Makes seat rec (load_of (release_word seat comm seat.rank) value) rec
  release_failed other =
      let stage = release_stage false (eqb_other value (rec.flips comm % 2) other) ∙ sym at in
      let calls = release_calls false (eqb_other value (rec.flips comm % 2) other) in
      makes_kept (release_loaded seat rec valid comm value present lt member) (λ i. record rec { stage = stage i; calls = calls i })

-- ---- the four loads of a line

-- one word of the line is the flag, which is word 0 or word 1, and the others tell nothing
pub line_loaded : (seat : Seat) (rec late : Record) (line : LineAt) (words : List ℕ) (k : ℕ) → k < 2
    → Makes seat rec (load_of (word_of_line line k) (slice_index words k)) late
    → ((w value : ℕ) → w < 4 → w ≢ k → Makes seat rec (load_of (word_of_line line w) value) rec)
    → ((w value : ℕ) → w < 4 → w ≢ k → Makes seat late (load_of (word_of_line line w) value) late)
    → record_on seat rec (loads_of line words) ≡ late
line_loaded seat rec late line words zero low own before afterwards =
    let e1 = load_of (word_of_line line 1) (slice_index words 1) in
    let e2 = load_of (word_of_line line 2) (slice_index words 2) in
    let e3 = load_of (word_of_line line 3) (slice_index words 3) in
    ap (λ (x : Record). record_next seat (record_next seat (record_next seat x e1) e2) e3) own.becomes
    ∙ ap (λ (x : Record). record_next seat (record_next seat x e2) e3) (afterwards 1 (slice_index words 1) (omega arith) (λ q. absurd (omega (arith, q)))).becomes
    ∙ ap (λ (x : Record). record_next seat x e3) (afterwards 2 (slice_index words 2) (omega arith) (λ q. absurd (omega (arith, q)))).becomes
    ∙ (afterwards 3 (slice_index words 3) (omega arith) (λ q. absurd (omega (arith, q)))).becomes
line_loaded seat rec late line words (suc zero) low own before afterwards =
    let e1 = load_of (word_of_line line 1) (slice_index words 1) in
    let e2 = load_of (word_of_line line 2) (slice_index words 2) in
    let e3 = load_of (word_of_line line 3) (slice_index words 3) in
    ap (λ (x : Record). record_next seat (record_next seat (record_next seat x e1) e2) e3) (before 0 (slice_index words 0) (omega arith) (λ q. absurd (omega (arith, q)))).becomes
    ∙ ap (λ (x : Record). record_next seat (record_next seat x e2) e3) own.becomes
    ∙ ap (λ (x : Record). record_next seat x e3) (afterwards 2 (slice_index words 2) (omega arith) (λ q. absurd (omega (arith, q)))).becomes
    ∙ (afterwards 3 (slice_index words 3) (omega arith) (λ q. absurd (omega (arith, q)))).becomes
line_loaded seat rec late line words (suc (suc k)) low own before afterwards = absurd (omega (arith, low))
