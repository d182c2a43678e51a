-- The turn of a receive that reads a line of the chunk in hand.
use Rattle.std.proofs.Common.{◌≡◌, ◌≢◌, ⊎_elim, ℕ, zero, suc, ◌+◌, ◌-◌, ◌*◌, ◌/◌, ◌%◌, ◌^◌, ◌<◌, ◌≤◌, min, true, ◌==◌, List, [], ◌∷◌, Option, Some, is_some, unwrap_or, length, take, refl, sym, ◌∙◌, ap, subst, arith, slice_index}
use Rattle.std.proofs.lemmas.Bool.{cases_lt}
use Rattle.scc_base.specs.Layouts.{first_chunk, chunk_lines, chunk_size}
use Rattle.scc_base.specs.Setups.{IsSetup, host_of}
use Rattle.scc_base.specs.declared.layouts.Layout.{Layout}
use Rattle.scc_proto.specs.Messages.{Notes, noted_word, has_all, byte_at}
use Rattle.scc_proto.specs.Stages.{Taking, Record}
use Rattle.scc_proto.specs.Records.{chunk_of}
use Rattle.scc_proto.specs.Ports.{Sight, record_in}
use Rattle.scc_proto.proofs.Tests.{eqb_other}
use Rattle.scc_proto.proofs.Layouts.Roles.{if_no}
use Rattle.scc_proto.proofs.Words.NoteFacts.{has_all-at, has_all-from}
use Rattle.line_cache.specs.declared.cache.Entry.{Entry}
use Rattle.put_get.specs.Cores.{Private, ReadsLine}
use Rattle.put_get.proofs.EntryLemmas.{EachEntry}
use Rattle.put_get.specs.Transfers.{line_at}
use Rattle.send_recv.specs.Bytes.{byte_of_line}
use Rattle.send_recv.specs.Chunks.{chunk_start, chunk_len, chunk_lines_of}
use Rattle.send_recv.specs.Ops.{RecvAt}
use Rattle.send_recv.specs.Receiving.{IsRead, IsNotedLine, AreNoted, IsTakingLines, progress_at, lines_now}
use Rattle.send_recv.specs.Steps.{core_of, with_empty_cache, before_line}
use Rattle.send_recv.proofs.Lines.NotedReads.{Grows, HasWords, line_notes}
use Rattle.send_recv.proofs.Lines.Sources.{with_taken, chunk_source, chunk_condition}

-- ---- lists and caches

pub take_agree : (n : ℕ) (xs ys : List ℕ) → length xs ≡ length ys → ((k : ℕ) → k < n → slice_index xs k ≡ slice_index ys k) → take n xs ≡ take n ys
take_agree zero xs ys long same = refl
take_agree (suc n) [] [] long same = refl
take_agree (suc n) [] (y ∷ ys) long same = absurd (cc)
take_agree (suc n) (x ∷ xs) [] long same = absurd (cc)
take_agree (suc n) (x ∷ xs) (y ∷ ys) long same =
    let rest : take n xs ≡ take n ys = take_agree n xs ys (let e : suc (length xs) ≡ suc (length ys) = long in omega (arith, e)) (λ k low. same (suc k) (omega (arith, low))) in
    let first : x ≡ y = same zero (omega arith) in
    λ i. first i ∷ rest i

pub each_noted : (layout : Layout) (core : ℕ) (chunk : Notes) (es : List Entry) → AreNoted layout core chunk es → EachEntry (IsNotedLine layout core chunk) es
each_noted layout core chunk [] a = tt
each_noted layout core chunk (e ∷ es) a = (a.0, each_noted layout core chunk es a.1)

pub noted_each : (layout : Layout) (core : ℕ) (chunk : Notes) (es : List Entry) → EachEntry (IsNotedLine layout core chunk) es → AreNoted layout core chunk es
noted_each layout core chunk [] a = tt
noted_each layout core chunk (e ∷ es) a = (a.0, noted_each layout core chunk es a.1)

cached_before : (layout : Layout) (core : ℕ) (chunk : Notes) (i : ℕ) (c : Private) → (i ≢ 0 → AreNoted layout core chunk c.lines) → EachEntry (IsNotedLine layout core chunk) (before_line i c).lines
cached_before layout core chunk zero c a = tt
cached_before layout core chunk (suc i) c a =
    let ne : suc i ≢ 0 = omega arith in
    subst (λ (x : Private). EachEntry (IsNotedLine layout core chunk) x.lines) (sym (if_no (suc i == 0) (with_empty_cache c) c (eqb_other (suc i) 0 ne))) (each_noted layout core chunk c.lines (a ne))

-- ---- the notes

grown_byte : (n m : Notes) (b : ℕ) → Grows n m → (v : ℕ) → noted_word n (b / 8) ≡ Some v → byte_at n b ≡ byte_at m b
grown_byte n m b grows v is = ap (λ (o : Option ℕ). unwrap_or o 0 / 256 ^ (b % 8) % 256) (is ∙ sym (grows (b / 8) v is))

-- more words are noted
more_noted : (n m : Notes) (i : ℕ) (words : List ℕ) → Grows n m → has_all n (4 * i) ≡ true → HasWords m (4 * i) words → has_all m (4 * (i + 1)) ≡ true
more_noted n m i words grows all has = has_all-from m (4 * (i + 1)) (λ k low. ⊎_elim
    (λ (old : k < 4 * i). let f = has_all-at n (4 * i) all k old in ap (λ (o : Option ℕ). is_some o) (grows k f.0 f.1))
    (λ (new : 4 * i ≤ k).
    let at : k ≡ 4 * i + (k - 4 * i) = omega (arith, new) in
    let below : k - 4 * i < 4 = omega (arith, new, low) in
    ap (λ j. is_some (noted_word m j)) at ∙ ap (λ (o : Option ℕ). is_some o) (has (k - 4 * i) below))
    (cases_lt k (4 * i)))

-- a byte of the line that was read
line_byte : (m : Notes) (i k : ℕ) (words : List ℕ) → k < 32 → HasWords m (4 * i) words → byte_of_line words k ≡ byte_at m (32 * i + k)
line_byte m i k words low has =
    let at : (32 * i + k) / 8 ≡ 4 * i + k / 8 = omega arith in
    let part : (32 * i + k) % 8 ≡ k % 8 = omega arith in
    let below : k / 8 < 4 = omega (arith, low) in
    sym (ap (λ j. unwrap_or (noted_word m j) 0 / 256 ^ ((32 * i + k) % 8) % 256) at
    ∙ ap (λ j. unwrap_or (noted_word m (4 * i + k / 8)) 0 / 256 ^ j % 256) part
    ∙ ap (λ (o : Option ℕ). unwrap_or o 0 / 256 ^ (k % 8) % 256) (has (k / 8) below))

-- what a line that was read leaves of the chunk in hand
pub line_read : (size : ℕ) (op : RecvAt) (bytes after : List ℕ) (n m : Notes) (i : ℕ) (words : List ℕ) → length bytes ≡ op.head.len → Grows n m → HasWords m (4 * i) words → IsRead size op bytes n i
    → ((k : ℕ) → k < 32 → chunk_start size op.chunk + 32 * i + k < length bytes → slice_index after (chunk_start size op.chunk + 32 * i + k) ≡ byte_of_line words k)
    → ((k : ℕ) → k < chunk_start size op.chunk + 32 * i → slice_index after k ≡ slice_index bytes k) → IsRead size op after m (i + 1)
line_read size op bytes after n m i words long grows has read put before = record {
  loaded = more_noted n m i words grows read.loaded has;
  bytes_stand = λ b low. ⊎_elim
      (λ (old : b < 32 * i).
      let within : b < min (32 * i) (chunk_len size op.head.len op.chunk) = omega (arith, old, low) in
      let word : b / 8 < 4 * i = omega (arith, old) in
      let f = has_all-at n (4 * i) read.loaded (b / 8) word in
      before (chunk_start size op.chunk + b) (omega (arith, old)) ∙ read.bytes_stand b within ∙ grown_byte n m b grows f.0 f.1)
      (λ (new : 32 * i ≤ b).
      let k : ℕ = b - 32 * i in
      let is : b ≡ 32 * i + (b - 32 * i) = omega (arith, new) in
      let small : b - 32 * i < 32 = omega (arith, new, low) in
      let place : chunk_start size op.chunk + b ≡ chunk_start size op.chunk + 32 * i + (b - 32 * i) = omega (arith, new) in
      let inside : chunk_start size op.chunk + 32 * i + (b - 32 * i) < length bytes = omega (arith, new, low, long) in
      ap (λ j. slice_index after j) place ∙ put (b - 32 * i) small inside ∙ line_byte m i (b - 32 * i) words small has ∙ ap (λ j. byte_at m j) (sym is))
      (cases_lt b (32 * i));
}

-- ---- the record

-- the lines of a chunk lie in the chunk buffer
line_within : (layout : Layout) (len chunk i : ℕ) → i < chunk_lines_of (chunk_size layout) len chunk → i < chunk_lines layout
line_within layout len chunk i low = omega (arith, low)

-- a line of the chunk in hand was read
pub taken_line : (s t : Sight) (c d : Private) (op : RecvAt) (bytes after words : List ℕ) (i : ℕ) (chunk : Notes) → IsSetup s.seat.setup → op.from < s.seat.setup.nue → length bytes ≡ op.head.len
    → i < lines_now (chunk_of s.seat.setup) op → IsTakingLines (chunk_of s.seat.setup) (record_in s) op bytes chunk i
    → (i ≢ 0 → AreNoted s.seat.setup.layout (host_of s.seat.setup.hosts op.from) chunk c.lines)
    → ReadsLine s (before_line i c) (line_at (core_of s.seat op.from) (first_chunk s.seat.setup.layout + i)) words t d → length after ≡ length bytes
    → ((k : ℕ) → k < 32 → chunk_start (chunk_of s.seat.setup) op.chunk + 32 * i + k < length bytes → slice_index after (chunk_start (chunk_of s.seat.setup) op.chunk + 32 * i + k) ≡ byte_of_line words k)
    → ((k : ℕ) → k < chunk_start (chunk_of s.seat.setup) op.chunk + 32 * i → slice_index after k ≡ slice_index bytes k)
    → (m : Notes) × IsTakingLines (chunk_of s.seat.setup) (record_in t) op after m (i + 1) × AreNoted s.seat.setup.layout (host_of s.seat.setup.hosts op.from) m d.lines
    × (record_in t ≡ with_taken (record_in s) op.from (progress_at (chunk_of s.seat.setup) op.head op.chunk bytes) m)
taken_line s t c d op bytes after words i chunk valid below long low taking cached reads same put before =
    let size = chunk_of s.seat.setup in
    let layout = s.seat.setup.layout in
    let core = host_of s.seat.setup.hosts op.from in
    let message = progress_at size op.head op.chunk bytes in
    let within = line_within layout op.head.len op.chunk i low in
    let is : record_in s ≡ with_taken (record_in s) op.from message chunk = λ p. record (record_in s) { stage = taking.stage p } in
    let r = line_notes s t (before_line i c) d s.seat (line_at (core_of s.seat op.from) (first_chunk layout + i)) (4 * i) (with_taken (record_in s) op.from message) (IsNotedLine layout core) words chunk
    (chunk_source s.seat (record_in s) op.from i message valid below within) (chunk_condition s.seat op.from i within) refl is (cached_before layout core chunk i c cached) reads in
    let front : take (chunk_start size op.chunk) bytes ≡ take (chunk_start size op.chunk) after
    = take_agree (chunk_start size op.chunk) bytes after (sym same) (λ k small. sym (before k (omega (arith, small)))) in (
      r.notes,
      record {
        stage = ap (λ (x : Record). x.stage) r.record_is ∙ ap (λ bs. Taking op.from (record { head = op.head; chunks = op.chunk; bytes = bs }) r.notes) front;
        read = line_read size op bytes after chunk r.notes i words long r.grows r.has taking.read put before;
      },
      noted_each layout core r.notes d.lines r.cached,
      r.record_is,
    )
