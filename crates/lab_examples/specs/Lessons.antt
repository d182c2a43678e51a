-- The lessons: the texts of `lessons/NAME.lab`, their comments left out.
use Rattle.std.specs.Prelude.{ℕ, List, ◌++◌, codes}

-- a core reads an old copy
abbrev pub old_copy : List ℕ
old_copy =
    codes "\n\ncore 1 read 0:0.0 expect 0\n"
    ++ codes "core 0 write 0.0 2a\n"
    ++ codes "core 0 flush\n"
    ++ codes "core 1 read 0:0.0 expect 2a\n"

-- a written word waits in the buffer
abbrev pub write_waits : List ℕ
write_waits =
    codes "\n\ncore 0 write 0.0 2a\n"
    ++ codes "core 0 read 0.0 expect 2a\n"
    ++ codes "core 0 print\n"
    ++ codes "core 1 read 0:0.0 expect 2a\n"

-- a flag overtakes its data
abbrev pub flag_overtakes : List ℕ
flag_overtakes =
    codes "\n\n\ncore 0 write 0.0 2a\n"
    ++ codes "core 0 write 1:1.0 1\n"
    ++ codes "core 0 write 0.1 2b\n"
    ++ codes "core 1 invalidate\n"
    ++ codes "core 1 read 1.0 expect 1\n"
    ++ codes "core 1 read 0:0.0 expect 2a\n"
    ++ codes "core 1 read 0:0.1 expect 2b\n"

-- two cores change two bits of one word at once
abbrev pub two_bits : List ℕ
two_bits =
    codes "\n\ncore 1 invalidate\n"
    ++ codes "core 1 read 0:0.0 expect 0\n"
    ++ codes "core 2 invalidate\n"
    ++ codes "core 2 read 0:0.0 expect 0\n"
    ++ codes "core 1 write 0:0.0 2\n"
    ++ codes "core 1 flush\n"
    ++ codes "core 2 write 0:0.0 4\n"
    ++ codes "core 2 flush\n"
    ++ codes "core 0 invalidate\n"
    ++ codes "core 0 read 0.0 expect 6\n"

-- a chunk is overwritten before it is taken
abbrev pub overwritten : List ℕ
overwritten =
    codes "\n\ncore 0 put 0 2a 0 0 0\n"
    ++ codes "core 0 put 1:1 1 0 0 0\n"
    ++ codes "core 0 put 0 2b 0 0 0\n"
    ++ codes "core 0 put 1:1 1 0 0 0\n"
    ++ codes "core 1 get 1 expect 1 0 0 0\n"
    ++ codes "core 1 get 0:0 expect 2a 0 0 0\n"

-- an evicted line heals a bug by luck
abbrev pub lucky_eviction : List ℕ
lucky_eviction =
    codes "\n\ncore 1 read 0:0.0 expect 0\n"
    ++ codes "core 2 read 0:0.0 expect 0\n"
    ++ codes "core 0 write 0.0 2a\n"
    ++ codes "core 0 flush\n"
    ++ codes "core 2 read 5:0.0 evict 0:0\n"
    ++ codes "core 2 read 0:0.0 expect 2a\n"
    ++ codes "core 1 read 5:0.0\n"
    ++ codes "core 1 read 0:0.0 expect 2a\n"

-- a lock is freed before the flush
abbrev pub lock_freed_early : List ℕ
lock_freed_early =
    codes "\n\n\ncore 1 take 0 expect took\n"
    ++ codes "core 1 invalidate\n"
    ++ codes "core 1 read 0:0.0 expect 0\n"
    ++ codes "core 1 write 0:0.0 1\n"
    ++ codes "core 1 free 0\n"
    ++ codes "core 2 take 0 expect took\n"
    ++ codes "core 2 invalidate\n"
    ++ codes "core 2 read 0:0.0 expect 1\n"

-- a barrier is passed by an old flag
abbrev pub old_barrier : List ℕ
old_barrier =
    codes "\n\n\ncore 1 put 0 1 0 0 0\n"
    ++ codes "core 0 get 1:0 expect 1 0 0 0\n"
    ++ codes "core 0 put 1:1 1 0 0 0\n"
    ++ codes "core 1 get 1 expect 1 0 0 0\n"
    ++ codes "core 0 get 1:0 expect 0 0 0 0\n"

-- a message is taken twice
abbrev pub taken_twice : List ℕ
taken_twice =
    codes "\n\n\ncore 0 put 0 2a 0 0 0\n"
    ++ codes "core 0 put 1:1 1 0 0 0\n"
    ++ codes "core 1 get 1 expect 1 0 0 0\n"
    ++ codes "core 1 get 0:0 expect 2a 0 0 0\n"
    ++ codes "core 1 get 1 expect 0 0 0 0\n"

-- one word is locked by two registers
abbrev pub two_registers : List ℕ
two_registers =
    codes "\n\ncore 1 take 1 expect took\n"
    ++ codes "core 2 take 2 expect took\n"
    ++ codes "core 1 invalidate\n"
    ++ codes "core 1 read 0:0.0 expect 0\n"
    ++ codes "core 2 invalidate\n"
    ++ codes "core 2 read 0:0.0 expect 0\n"
    ++ codes "core 1 write 0:0.0 1\n"
    ++ codes "core 1 flush\n"
    ++ codes "core 1 free 1\n"
    ++ codes "core 2 write 0:0.0 1\n"
    ++ codes "core 2 flush\n"
    ++ codes "core 2 free 2\n"
    ++ codes "core 0 invalidate\n"
    ++ codes "core 0 read 0.0 expect 2\n"

-- a line is not atomic
abbrev pub torn_line : List ℕ
torn_line =
    codes "\n\n\ncore 1 load 0:0.0 expect 0\n"
    ++ codes "core 0 store 0.1 2b\n"
    ++ codes "core 0 store 0.0 2a\n"
    ++ codes "core 1 load 0:0.1 expect 0\n"
