-- The table's words as the chip's memory: each stands at its number (this project's profile).
use Rattle.std.specs.Prelude.{ℕ, Bool, ◌&&◌, nat_lt, if◌then◌else◌, List, slice_index}
use Rattle.scc_base.specs.Numbers.{word_number, register_number}
use Rattle.scc_proto.specs.Words.{Memory}

-- the chip has such a word
abbrev pub is_word : ℕ → ℕ → ℕ → Bool
is_word core line word = nat_lt core 48 && (nat_lt line 256 && nat_lt word 4)

-- the memory whose words and registers have these values by their numbers; what lies outside the chip is 0
unfoldable pub memory_of : List ℕ → Memory
memory_of words = record {
  word = λ core line word. if is_word core line word then slice_index words (word_number core line word) else 0;
  register = λ core. if nat_lt core 48 then slice_index words (register_number core) else 0;
}
