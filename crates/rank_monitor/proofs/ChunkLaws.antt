-- What noted words of a chunk buffer say of its bytes.
use Rattle.std.proofs.Common.{◌≡◌, ◌≢◌, ℕ, suc, ◌+◌, ◌/◌, ◌%◌, ◌<◌, Bool, true, false, ◌&&◌, ◌==◌, List, [], ◌∷◌, ◌++◌, length, Option, None, unwrap_or, slice_index_or, append_assoc, append-nil, length-append, sym, ◌∙◌, ap, arith}
use Rattle.scc_base.specs.Bytes.{byte_of_word}
use Rattle.scc_proto.specs.Messages.{Notes, byte_at, bytes_from, is_zero_from}
use Rattle.scc_proto.proofs.Words.NoteFacts.{length-bytes_from}
use Rattle.scc_proto.proofs.Tests.{eqb_other}
use Rattle.rank_monitor.specs.Noted.{IsChunkOf}
use Rattle.rank_monitor.specs.declared.chunks.NotedChunk.{NotedChunk}

pub byte_noted : (chunk : NotedChunk) (notes : Notes) (at : ℕ) → at < 6624 → IsChunkOf chunk notes → byte_of_word (unwrap_or (slice_index_or chunk.words (at / 8) None) 0) (at % 8) ≡ byte_at notes at
byte_noted chunk notes at below is = ap (λ (o : Option ℕ). byte_of_word (unwrap_or o 0) (at % 8)) (is.words (at / 8) (omega (arith, below)))

pub zero_more : (notes : Notes) (at left n : ℕ) → left ≡ suc n → byte_at notes at ≡ 0 → is_zero_from notes at left ≡ is_zero_from notes (at + 1) n
unfolding is_zero_from
zero_more notes at left n one is =
    let next : suc at ≡ at + 1 = omega arith in
    ap (λ (k : ℕ). is_zero_from notes at k) one ∙ ap (λ (b : ℕ). (b == 0) && is_zero_from notes (suc at) n) is ∙ ap (λ (k : ℕ). is_zero_from notes k n) next

pub zero_not : (notes : Notes) (at left n : ℕ) → left ≡ suc n → byte_at notes at ≢ 0 → is_zero_from notes at left ≡ false
unfolding is_zero_from
zero_not notes at left n one other = ap (λ (k : ℕ). is_zero_from notes at k) one ∙ ap (λ (b : Bool). b && is_zero_from notes (suc at) n) (eqb_other (byte_at notes at) 0 other)

pub zero_none : (notes : Notes) (at left : ℕ) → left ≡ 0 → is_zero_from notes at left ≡ true
unfolding is_zero_from
zero_none notes at left none = ap (λ (k : ℕ). is_zero_from notes at k) none

-- one byte more
pub byte_more : (notes : Notes) (items end : List ℕ) (at left n : ℕ) → left ≡ suc n → items ++ bytes_from notes at left ≡ end → (items ++ byte_at notes at ∷ []) ++ bytes_from notes (at + 1) n ≡ end
unfolding bytes_from
byte_more notes items end at left n one is =
    let next : at + 1 ≡ suc at = omega arith in
    append_assoc items (byte_at notes at ∷ []) (bytes_from notes (at + 1) n) ∙ ap (λ (k : ℕ). items ++ byte_at notes at ∷ bytes_from notes k n) next
    ∙ ap (λ (k : ℕ). items ++ bytes_from notes at k) (sym one) ∙ is

pub bytes_done : (notes : Notes) (items end : List ℕ) (at left : ℕ) → left ≡ 0 → items ++ bytes_from notes at left ≡ end → items ≡ end
unfolding bytes_from
bytes_done notes items end at left none is = sym (append-nil items) ∙ ap (λ (k : ℕ). items ++ bytes_from notes at k) (sym none) ∙ is

-- the buffer can hold one byte more than those so far
pub bytes_room : (notes : Notes) (items old : List ℕ) (at left count : ℕ) → items ++ bytes_from notes at left ≡ old ++ bytes_from notes 0 count → length items + left ≡ length old + count
bytes_room notes items old at left count is =
    ap (λ (n : ℕ). length items + n) (sym (length-bytes_from notes at left)) ∙ sym (length-append items (bytes_from notes at left)) ∙ ap length is
    ∙ length-append old (bytes_from notes 0 count) ∙ ap (λ (n : ℕ). length old + n) (length-bytes_from notes 0 count)
