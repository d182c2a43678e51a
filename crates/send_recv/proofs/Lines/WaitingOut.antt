-- The line that waits in the write-combining buffer goes out: each of its stores is permitted, and then its
-- words are drafted.
use Rattle.std.proofs.Common.{◌≡◌, ℕ, zero, suc, ◌+◌, ◌*◌, ◌<◌, ◌≤◌, Bool, true, false, ◌==◌, ◌&&◌, if◌then◌else◌, List, [], ◌∷◌, Option, Some, None, is_none, refl, sym, ◌∙◌, ap, subst, arith}
use Rattle.scc_base.specs.Heads.{MessageHead}
use Rattle.scc_base.specs.Layouts.{first_chunk, chunk_lines}
use Rattle.scc_base.specs.Setups.{IsSetup}
use Rattle.scc_base.specs.Events.{store_of}
use Rattle.scc_base.specs.declared.events.Event.{Event}
use Rattle.scc_proto.specs.Messages.{Notes, note_word, header_word, Progress}
use Rattle.scc_proto.specs.Stages.{Filling, Stage, Idle, Drafting, Sending, InFlight, Record}
use Rattle.scc_proto.specs.Moves.{draft_chunk}
use Rattle.scc_proto.specs.Permission.{drafts_chunk}
use Rattle.scc_proto.specs.Records.{chunk_of}
use Rattle.scc_proto.specs.Ports.{Seat, MayMakeAll, record_on}
use Rattle.scc_proto.proofs.Layouts.Roles.{own_word, eq_is}
use Rattle.scc_proto.proofs.Layouts.PlaceMoves.{Makes, header_stored, chunk_stored}
use Rattle.write_combine.specs.declared.combiner.Out.{Out}
use Rattle.put_get.specs.Accesses.{stores_of, whole_line}
use Rattle.put_get.specs.Transfers.{load_count}
use Rattle.sync_flags.specs.Tries.{changing_after}
use Rattle.send_recv.specs.Bytes.{word_of_bytes}
use Rattle.send_recv.specs.Chunks.{chunk_start, chunk_lines_of}
use Rattle.send_recv.specs.Ops.{SendAt}
use Rattle.send_recv.specs.Receiving.{progress_at}
use Rattle.send_recv.specs.Sending.{own_line, header_words, lines_in_hand, waiting, HasDrafted, First, Later, HasNoLines, DraftedBefore}
use Rattle.send_recv.proofs.Lines.DraftNotes.{FourMade, four_made, line_drafted, line_more, no_lines, header_drafted, header_noted}

-- ---- a header line

header_made : (seat : Seat) (rec : Record) (head : MessageHead) (posted : Bool) → IsSetup seat.setup → seat.rank < seat.setup.nue → rec.post ≡ None
    → FourMade seat (record rec { stage = Idle }) (record rec { stage = Drafting (header_drafted head posted) [] })
    (store_of (own_word seat.setup seat.rank 0 3) (header_word head posted 3)) (store_of (own_word seat.setup seat.rank 0 2) (header_word head posted 2))
    (store_of (own_word seat.setup seat.rank 0 1) (header_word head posted 1)) (store_of (own_word seat.setup seat.rank 0 0) (header_word head posted 0))
header_made seat rec head posted valid below none =
    let n3 : Notes = note_word 3 (header_word head posted 3) [] in
    let n2 = note_word 2 (header_word head posted 2) n3 in
    let n1 = note_word 1 (header_word head posted 1) n2 in
    let may : (is_none rec.post && true) ≡ true = ap (λ (o : Option InFlight). is_none o && true) none in
    four_made seat (record rec { stage = Idle }) (record rec { stage = Drafting n3 [] }) (record rec { stage = Drafting n2 [] }) (record rec { stage = Drafting n1 [] })
    (record rec { stage = Drafting (header_drafted head posted) [] }) _ _ _ _
    (header_stored seat (record rec { stage = Idle }) valid 3 (header_word head posted 3) below may)
    (header_stored seat (record rec { stage = Drafting n3 [] }) valid 2 (header_word head posted 2) below may)
    (header_stored seat (record rec { stage = Drafting n2 [] }) valid 1 (header_word head posted 1) below may)
    (header_stored seat (record rec { stage = Drafting n1 [] }) valid 0 (header_word head posted 0) below may)

-- ---- a line of the chunk

-- a stage in which words of a chunk are drafted, by the words that are noted
record IsDrafting (stage : Notes → Stage) : Type 0 where
  drafts : (notes : Notes) → drafts_chunk (stage notes) ≡ true
  next : (k v : ℕ) (notes : Notes) → draft_chunk k v (stage notes) ≡ stage (note_word k v notes)

word_made : (seat : Seat) (rec : Record) (stage : Notes → Stage) (notes : Notes) (i k v : ℕ) → IsSetup seat.setup → seat.rank < seat.setup.nue → i < chunk_lines seat.setup.layout → rec.post ≡ None → IsDrafting stage
    → Makes seat (record rec { stage = stage notes }) (store_of (own_word seat.setup seat.rank (first_chunk seat.setup.layout + i) k) v) (record rec { stage = stage (note_word (4 * i + k) v notes) })
word_made seat rec stage notes i k v valid below low none d =
    let may : (is_none rec.post && drafts_chunk (stage notes)) ≡ true = (λ j. is_none (none j) && d.drafts notes j) in
    subst (λ (st : Stage). Makes seat (record rec { stage = stage notes }) (store_of (own_word seat.setup seat.rank (first_chunk seat.setup.layout + i) k) v) (record rec { stage = st })) (d.next (4 * i + k) v notes)
    (chunk_stored seat (record rec { stage = stage notes }) valid i k v below low may)

line_made : (seat : Seat) (rec : Record) (stage : Notes → Stage) (notes : Notes) (bytes : List ℕ) (start i : ℕ) → IsSetup seat.setup → seat.rank < seat.setup.nue → i < chunk_lines seat.setup.layout → rec.post ≡ None → IsDrafting stage
    → FourMade seat (record rec { stage = stage notes }) (record rec { stage = stage (line_drafted bytes start i notes) })
    (store_of (own_word seat.setup seat.rank (first_chunk seat.setup.layout + i) 3) (word_of_bytes bytes (start + 32 * i + 24)))
    (store_of (own_word seat.setup seat.rank (first_chunk seat.setup.layout + i) 2) (word_of_bytes bytes (start + 32 * i + 16)))
    (store_of (own_word seat.setup seat.rank (first_chunk seat.setup.layout + i) 1) (word_of_bytes bytes (start + 32 * i + 8)))
    (store_of (own_word seat.setup seat.rank (first_chunk seat.setup.layout + i) 0) (word_of_bytes bytes (start + 32 * i)))
line_made seat rec stage notes bytes start i valid below low none d =
    let n3 = note_word (4 * i + 3) (word_of_bytes bytes (start + 32 * i + 24)) notes in
    let n2 = note_word (4 * i + 2) (word_of_bytes bytes (start + 32 * i + 16)) n3 in
    let n1 = note_word (4 * i + 1) (word_of_bytes bytes (start + 32 * i + 8)) n2 in
    four_made seat (record rec { stage = stage notes }) (record rec { stage = stage n3 }) (record rec { stage = stage n2 }) (record rec { stage = stage n1 })
    (record rec { stage = stage (line_drafted bytes start i notes) }) _ _ _ _
    (word_made seat rec stage notes i 3 (word_of_bytes bytes (start + 32 * i + 24)) valid below low none d)
    (word_made seat rec stage n3 i 2 (word_of_bytes bytes (start + 32 * i + 16)) valid below low none d)
    (word_made seat rec stage n2 i 1 (word_of_bytes bytes (start + 32 * i + 8)) valid below low none d)
    (subst (λ m. Makes seat (record rec { stage = stage n1 }) (store_of (own_word seat.setup seat.rank (first_chunk seat.setup.layout + i) 0) (word_of_bytes bytes (start + 32 * i)))
    (record rec { stage = stage (note_word m (word_of_bytes bytes (start + 32 * i)) n1) })) (let e : 4 * i + 0 ≡ 4 * i = omega arith in e)
    (word_made seat rec stage n1 i 0 (word_of_bytes bytes (start + 32 * i)) valid below low none d))

first_drafting : (header : Notes) → IsDrafting (λ (notes : Notes). Drafting header notes)
first_drafting header = record { drafts = λ notes. refl; next = λ k v notes. refl }

later_drafting : (to : ℕ) (message : Progress) → IsDrafting (λ (notes : Notes). Sending to Filling message notes)
later_drafting to message = record { drafts = λ notes. refl; next = λ k v notes. refl }

-- ---- what waits, in either case

-- the stores of what waited are permitted, and then the lines are drafted
pub record LineOut (seat : Seat) (rec : Record) (out : Option Out) (op : SendAt) (bytes : List ℕ) (lines : ℕ) : Type 0 where
  pub new : Stage
  pub may : MayMakeAll seat rec (stores_of out)
  pub becomes : record_on seat rec (stores_of out) ≡ record rec { stage = new }
  pub drafted : HasDrafted (chunk_of seat.setup) new op bytes lines

-- four stores that begin at a stage that is known
four_out : (seat : Seat) (rec : Record) (from new : Stage) (op : SendAt) (bytes : List ℕ) (lines : ℕ) (out : Option Out) (e0 e1 e2 e3 : Event) → rec.stage ≡ from → stores_of out ≡ e0 ∷ e1 ∷ e2 ∷ e3 ∷ []
    → FourMade seat (record rec { stage = from }) (record rec { stage = new }) e0 e1 e2 e3 → HasDrafted (chunk_of seat.setup) new op bytes lines → LineOut seat rec out op bytes lines
four_out seat rec from new op bytes lines out e0 e1 e2 e3 at stores made drafted =
    let is : rec ≡ record rec { stage = from } = λ i. record rec { stage = at i } in
    record {
      new = new;
      may = subst (λ es. MayMakeAll seat rec es) (sym stores) (subst (λ (x : Record). MayMakeAll seat x (e0 ∷ e1 ∷ e2 ∷ e3 ∷ [])) (sym is) made.may);
      becomes = ap (λ es. record_on seat rec es) stores ∙ ap (λ (x : Record). record_on seat x (e0 ∷ e1 ∷ e2 ∷ e3 ∷ [])) is ∙ made.becomes;
      drafted = drafted;
    }

header_out : (b : Bool) (seat : Seat) (rec : Record) (op : SendAt) (bytes : List ℕ) → (op.chunk == 0) ≡ b → IsSetup seat.setup → seat.rank < seat.setup.nue → rec.post ≡ None → HasNoLines (chunk_of seat.setup) rec.stage op bytes b
    → LineOut seat rec (if b then Some (whole_line (own_line seat 0) (header_words op.head op.posted)) else None) op bytes 0
header_out true seat rec op bytes first valid below none idle =
    four_out seat rec Idle (Drafting (header_drafted op.head op.posted) []) op bytes 0 (Some (whole_line (own_line seat 0) (header_words op.head op.posted))) _ _ _ _ idle refl
    (header_made seat rec op.head op.posted valid below none)
    (First (header_drafted op.head op.posted) [] (eq_is op.chunk 0 first) refl (header_noted op.head op.posted) (no_lines bytes (chunk_start (chunk_of seat.setup) op.chunk) []))
header_out false seat rec op bytes later valid below none drafted = record { new = rec.stage; may = tt; becomes = refl; drafted = drafted }

chunk_out : (seat : Seat) (rec : Record) (op : SendAt) (bytes : List ℕ) (i : ℕ) → IsSetup seat.setup → seat.rank < seat.setup.nue → rec.post ≡ None → i < chunk_lines seat.setup.layout
    → HasDrafted (chunk_of seat.setup) rec.stage op bytes i → LineOut seat rec (waiting seat op bytes (suc i)) op bytes (suc i)
chunk_out seat rec op bytes i valid below none low (First header chunk first at words lines) =
    let start = chunk_start (chunk_of seat.setup) op.chunk in
    four_out seat rec (Drafting header chunk) (Drafting header (line_drafted bytes start i chunk)) op bytes (suc i) (waiting seat op bytes (suc i)) _ _ _ _ at refl
    (line_made seat rec (λ (notes : Notes). Drafting header notes) chunk bytes start i valid below low none (first_drafting header))
    (First header (line_drafted bytes start i chunk) first refl words (line_more bytes start i chunk lines))
chunk_out seat rec op bytes i valid below none low (Later chunk later at lines) =
    let start = chunk_start (chunk_of seat.setup) op.chunk in
    let message = progress_at (chunk_of seat.setup) op.head op.chunk bytes in
    four_out seat rec (Sending op.to Filling message chunk) (Sending op.to Filling message (line_drafted bytes start i chunk)) op bytes (suc i) (waiting seat op bytes (suc i)) _ _ _ _ at refl
    (line_made seat rec (λ (notes : Notes). Sending op.to Filling message notes) chunk bytes start i valid below low none (later_drafting op.to message))
    (Later (line_drafted bytes start i chunk) later refl (line_more bytes start i chunk lines))

-- a chunk has no more lines than its buffer
pub lines_within : (w len chunk : ℕ) → chunk_lines_of (32 * w) len chunk ≤ w
lines_within w len chunk = omega arith

pub waiting_out : (seat : Seat) (rec : Record) (op : SendAt) (bytes : List ℕ) (i : ℕ) → IsSetup seat.setup → seat.rank < seat.setup.nue → rec.post ≡ None → i ≤ lines_in_hand (chunk_of seat.setup) op
    → DraftedBefore (chunk_of seat.setup) rec.stage op bytes i → LineOut seat rec (waiting seat op bytes i) op bytes i
waiting_out seat rec op bytes zero valid below none low drafted = header_out (op.chunk == 0) seat rec op bytes refl valid below none drafted
waiting_out seat rec op bytes (suc i) valid below none low drafted =
    let within = lines_within (chunk_lines seat.setup.layout) op.head.len op.chunk in
    chunk_out seat rec op bytes i valid below none (omega (arith, low, within)) drafted

-- its events are stores
waits_loads : (b : Bool) (o : Out) → load_count (stores_of (Some o)) ≡ 0 → load_count (stores_of (if b then Some o else None)) ≡ 0
waits_loads true o none = none
waits_loads false o none = refl

pub waiting_loads : (seat : Seat) (op : SendAt) (bytes : List ℕ) (i : ℕ) → load_count (stores_of (waiting seat op bytes i)) ≡ 0
waiting_loads seat op bytes zero = waits_loads (op.chunk == 0) (whole_line (own_line seat 0) (header_words op.head op.posted)) refl
waiting_loads seat op bytes (suc i) = refl

waits_freed : (b : Bool) (o : Out) → changing_after false (stores_of (Some o)) ≡ false → changing_after false (stores_of (if b then Some o else None)) ≡ false
waits_freed true o none = none
waits_freed false o none = refl

pub waiting_freed : (seat : Seat) (op : SendAt) (bytes : List ℕ) (i : ℕ) → changing_after false (stores_of (waiting seat op bytes i)) ≡ false
waiting_freed seat op bytes zero = waits_freed (op.chunk == 0) (whole_line (own_line seat 0) (header_words op.head op.posted)) refl
waiting_freed seat op bytes (suc i) = refl
