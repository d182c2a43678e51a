-- The lessons, mended: the texts of `lessons/mended/NAME.lab`, their comments left out.
use Rattle.std.specs.Prelude.{ℕ, List, ◌++◌, codes}

-- a core reads an old copy: mended
abbrev pub old_copy_mended : List ℕ
old_copy_mended =
    codes "\n\ncore 1 invalidate\n"
    ++ codes "core 1 read 0:0.0 expect 0\n"
    ++ codes "core 0 write 0.0 2a\n"
    ++ codes "core 0 flush\n"
    ++ codes "core 1 invalidate\n"
    ++ codes "core 1 read 0:0.0 expect 2a\n"

-- a written word waits in the buffer: mended
abbrev pub write_waits_mended : List ℕ
write_waits_mended =
    codes "\n\ncore 0 write 0.0 2a\n"
    ++ codes "core 0 flush\n"
    ++ codes "core 1 read 0:0.0 expect 2a\n"

-- a flag overtakes its data: mended
abbrev pub flag_overtakes_mended : List ℕ
flag_overtakes_mended =
    codes "\n\ncore 0 write 0.0 2a\n"
    ++ codes "core 0 write 0.1 2b\n"
    ++ codes "core 0 write 1:1.0 1\n"
    ++ codes "core 0 flush\n"
    ++ codes "core 1 invalidate\n"
    ++ codes "core 1 read 1.0 expect 1\n"
    ++ codes "core 1 read 0:0.0 expect 2a\n"
    ++ codes "core 1 read 0:0.1 expect 2b\n"

-- two cores change two bits of one word at once: mended
abbrev pub two_bits_mended : List ℕ
two_bits_mended =
    codes "\n\ncore 1 take 0 expect took\n"
    ++ codes "core 1 invalidate\n"
    ++ codes "core 1 read 0:0.0 expect 0\n"
    ++ codes "core 2 take 0 expect taken\n"
    ++ codes "core 1 write 0:0.0 2\n"
    ++ codes "core 1 flush\n"
    ++ codes "core 1 free 0\n"
    ++ codes "core 2 take 0 expect took\n"
    ++ codes "core 2 invalidate\n"
    ++ codes "core 2 read 0:0.0 expect 2\n"
    ++ codes "core 2 write 0:0.0 6\n"
    ++ codes "core 2 flush\n"
    ++ codes "core 2 free 0\n"
    ++ codes "core 0 invalidate\n"
    ++ codes "core 0 read 0.0 expect 6\n"

-- a chunk is overwritten before it is taken: mended
abbrev pub overwritten_mended : List ℕ
overwritten_mended =
    codes "\n\ncore 0 put 0 2a 0 0 0\n"
    ++ codes "core 0 put 1:1 1 0 0 0\n"
    ++ codes "core 0 get 2 expect 0 0 0 0\n"
    ++ codes "core 1 get 1 expect 1 0 0 0\n"
    ++ codes "core 1 put 1 0 0 0 0\n"
    ++ codes "core 1 get 0:0 expect 2a 0 0 0\n"
    ++ codes "core 1 put 0:2 1 0 0 0\n"
    ++ codes "core 0 get 2 expect 1 0 0 0\n"
    ++ codes "core 0 put 2 0 0 0 0\n"
    ++ codes "core 0 put 0 2b 0 0 0\n"
    ++ codes "core 0 put 1:1 1 0 0 0\n"
    ++ codes "core 1 get 1 expect 1 0 0 0\n"
    ++ codes "core 1 put 1 0 0 0 0\n"
    ++ codes "core 1 get 0:0 expect 2b 0 0 0\n"
    ++ codes "core 1 put 0:2 1 0 0 0\n"

-- an evicted line heals a bug by luck: mended
abbrev pub lucky_eviction_mended : List ℕ
lucky_eviction_mended =
    codes "\n\ncore 1 read 0:0.0 expect 0\n"
    ++ codes "core 2 read 0:0.0 expect 0\n"
    ++ codes "core 0 write 0.0 2a\n"
    ++ codes "core 0 flush\n"
    ++ codes "core 2 read 5:0.0 evict 0:0\n"
    ++ codes "core 2 invalidate\n"
    ++ codes "core 2 read 0:0.0 expect 2a\n"
    ++ codes "core 1 read 5:0.0\n"
    ++ codes "core 1 invalidate\n"
    ++ codes "core 1 read 0:0.0 expect 2a\n"

-- a lock is freed before the flush: mended
abbrev pub lock_freed_early_mended : List ℕ
lock_freed_early_mended =
    codes "\n\ncore 1 take 0 expect took\n"
    ++ codes "core 1 invalidate\n"
    ++ codes "core 1 read 0:0.0 expect 0\n"
    ++ codes "core 1 write 0:0.0 1\n"
    ++ codes "core 1 flush\n"
    ++ codes "core 1 free 0\n"
    ++ codes "core 2 take 0 expect took\n"
    ++ codes "core 2 invalidate\n"
    ++ codes "core 2 read 0:0.0 expect 1\n"
    ++ codes "core 2 write 0:0.0 2\n"
    ++ codes "core 2 flush\n"
    ++ codes "core 2 free 0\n"
    ++ codes "core 0 invalidate\n"
    ++ codes "core 0 read 0.0 expect 2\n"

-- a barrier is passed by an old flag: mended
abbrev pub old_barrier_mended : List ℕ
old_barrier_mended =
    codes "\n\ncore 1 put 0 1 0 0 0\n"
    ++ codes "core 0 get 1:0 expect 1 0 0 0\n"
    ++ codes "core 0 put 1:1 1 0 0 0\n"
    ++ codes "core 1 get 1 expect 1 0 0 0\n"
    ++ codes "core 0 get 1:0 expect 1 0 0 0\n"
    ++ codes "core 1 put 0 0 0 0 0\n"
    ++ codes "core 0 get 1:0 expect 0 0 0 0\n"
    ++ codes "core 0 put 1:1 0 0 0 0\n"
    ++ codes "core 1 get 1 expect 0 0 0 0\n"

-- a message is taken twice: mended
abbrev pub taken_twice_mended : List ℕ
taken_twice_mended =
    codes "\n\ncore 0 put 0 2a 0 0 0\n"
    ++ codes "core 0 put 1:1 1 0 0 0\n"
    ++ codes "core 1 get 1 expect 1 0 0 0\n"
    ++ codes "core 1 put 1 0 0 0 0\n"
    ++ codes "core 1 get 0:0 expect 2a 0 0 0\n"
    ++ codes "core 1 get 1 expect 0 0 0 0\n"
    ++ codes "core 0 put 0 2b 0 0 0\n"
    ++ codes "core 0 put 1:1 1 0 0 0\n"
    ++ codes "core 1 get 1 expect 1 0 0 0\n"
    ++ codes "core 1 put 1 0 0 0 0\n"
    ++ codes "core 1 get 0:0 expect 2b 0 0 0\n"

-- one word is locked by two registers: mended
abbrev pub two_registers_mended : List ℕ
two_registers_mended =
    codes "\n\ncore 1 take 0 expect took\n"
    ++ codes "core 2 take 0 expect taken\n"
    ++ codes "core 1 invalidate\n"
    ++ codes "core 1 read 0:0.0 expect 0\n"
    ++ codes "core 1 write 0:0.0 1\n"
    ++ codes "core 1 flush\n"
    ++ codes "core 1 free 0\n"
    ++ codes "core 2 take 0 expect took\n"
    ++ codes "core 2 invalidate\n"
    ++ codes "core 2 read 0:0.0 expect 1\n"
    ++ codes "core 2 write 0:0.0 2\n"
    ++ codes "core 2 flush\n"
    ++ codes "core 2 free 0\n"
    ++ codes "core 0 invalidate\n"
    ++ codes "core 0 read 0.0 expect 2\n"

-- a line is not atomic: mended
abbrev pub torn_line_mended : List ℕ
torn_line_mended =
    codes "\n\ncore 1 load 1.0 expect 0\n"
    ++ codes "core 0 store 0.1 2b\n"
    ++ codes "core 1 load 1.0 expect 0\n"
    ++ codes "core 0 store 0.0 2a\n"
    ++ codes "core 0 store 1:1.0 1\n"
    ++ codes "core 1 load 1.0 expect 1\n"
    ++ codes "core 1 load 0:0.0 expect 2a\n"
    ++ codes "core 1 load 0:0.1 expect 2b\n"
