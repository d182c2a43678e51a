use Rattle.std.proofs.Common.{◌≡◌, ◌+◌, ◌<◌, ◌≤◌, ℕ, length, slice_index}
use Rattle.scc_base.specs.Bytes.{byte_of_word}
use Rattle.send_recv.proofs.slices.put_word.Given as goal

abbrev pub invariant-bytes : goal.invariant-bytes
invariant-bytes l = record {
  put : (k : ℕ) → k < l.k → l.at + k < length l.bytes → slice_index l.bytes (l.at + k) ≡ byte_of_word l.word k;
  before : (k : ℕ) → k < l.at → slice_index l.bytes k ≡ slice_index l.fn.bytes k;
  afterwards : (k : ℕ) → l.at + l.k ≤ k → slice_index l.bytes k ≡ slice_index l.fn.bytes k;
}
