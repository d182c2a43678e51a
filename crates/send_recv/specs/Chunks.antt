-- How a message is cut into chunks (this project's profile). A chunk buffer has `size` bytes, in lines of
-- 32 bytes.
use Rattle.std.specs.Prelude.{ℕ, ◌+◌, ◌-◌, ◌*◌, ◌/◌, Bool, min, max, nat_le}
use Rattle.scc_base.specs.Layouts.{chunk_size}
use Rattle.scc_base.specs.declared.layouts.Layout.{Layout}

-- how many chunks a message of `len` bytes has: at least one, so that the empty message has its header
abbrev pub chunk_count : ℕ → ℕ → ℕ
chunk_count size len = max 1 ((len + size - 1) / size)

-- the byte at which a chunk starts
abbrev pub chunk_start : ℕ → ℕ → ℕ
chunk_start size chunk = size * chunk

-- how many bytes chunk i of a message has
abbrev pub chunk_len : ℕ → ℕ → ℕ → ℕ
chunk_len size len chunk = min size (len - size * chunk)

-- how many lines n bytes take
abbrev pub lines_of_bytes : ℕ → ℕ
lines_of_bytes bytes = (bytes + 31) / 32

-- how many lines chunk i of a message takes
abbrev pub chunk_lines_of : ℕ → ℕ → ℕ → ℕ
chunk_lines_of size len chunk = lines_of_bytes (chunk_len size len chunk)

-- how many lines chunk i and all later ones take
abbrev pub lines_from : ℕ → ℕ → ℕ → ℕ
lines_from size len chunk = lines_of_bytes (len - size * chunk)

-- chunk i of a message is its last
abbrev pub is_last_chunk : ℕ → ℕ → ℕ → Bool
is_last_chunk size len chunk = nat_le len (size * (chunk + 1))

-- the most turns that do not wait of a message of `len` bytes: 4 + 5c + l, for c chunks of l lines
abbrev pub message_bound : Layout → ℕ → ℕ
message_bound layout len = 4 + 5 * chunk_count (chunk_size layout) len + lines_of_bytes len
