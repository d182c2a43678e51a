-- Small labs without an error, which show how this memory behaves.
use Rattle.std.specs.Prelude.{ℕ, List, ◌++◌, codes}

-- each of two cores writes its word and then reads the other's
abbrev pub store_buffering : List ℕ
store_buffering =
    codes "core 0 write 0.0 1\n"
    ++ codes "core 1 write 0.0 1\n"
    ++ codes "core 0 read 1:0.0 expect 0\n"
    ++ codes "core 1 read 0:0.0 expect 0\n"

-- a core reads its own word while the word waits, and again after it has left
abbrev pub own_word_back : List ℕ
own_word_back =
    codes "core 0 write 0.0 1\n"
    ++ codes "core 0 read 0.1 expect 0\n"
    ++ codes "core 0 read 0.0 expect 1\n"
    ++ codes "core 0 flush\n"
    ++ codes "core 0 read 0.0 expect 0\n"

-- two cores with a copy of one line each write a word of it
abbrev pub words_of_one_line : List ℕ
words_of_one_line =
    codes "core 0 read 0 expect 0 0 0 0\n"
    ++ codes "core 1 read 0:0 expect 0 0 0 0\n"
    ++ codes "core 0 write 0.0 1\n"
    ++ codes "core 1 write 0:0.1 2\n"
    ++ codes "core 0 flush\n"
    ++ codes "core 1 flush\n"
    ++ codes "core 2 read 0:0 expect 1 2 0 0\n"

-- a core takes a register, another finds it taken; it is freed and taken again; then a core frees it that does not have it
abbrev pub register_taken_twice : List ℕ
register_taken_twice =
    codes "core 0 take 5 expect took\n"
    ++ codes "core 1 take 5 expect taken\n"
    ++ codes "core 0 free 5\n"
    ++ codes "core 1 take 5 expect took\n"
    ++ codes "core 0 free 5\n"

-- Two cores each get a line, change one word, and put the line back by single accesses to its words 0 and 1. The puts overlap, and after
-- them both changes are lost.
abbrev pub two_puts_split : List ℕ
two_puts_split =
    codes "core 0 load 0.0 expect 0\n"
    ++ codes "core 0 load 0.1 expect 0\n"
    ++ codes "core 1 load 0:0.0 expect 0\n"
    ++ codes "core 1 load 0:0.1 expect 0\n"
    ++ codes "core 1 store 0:0.1 1\n"
    ++ codes "core 0 store 0.1 0\n"
    ++ codes "core 0 store 0.0 1\n"
    ++ codes "core 1 store 0:0.0 0\n"
    ++ codes "core 2 load 0:0.0 expect 0\n"
    ++ codes "core 2 load 0:0.1 expect 0\n"

-- The data is word 0 of a line and its flag word 1, which is stored first. Another core gets the line between the two stores.
abbrev pub flag_before_data : List ℕ
flag_before_data =
    codes "core 0 store 0.1 1\n"
    ++ codes "core 1 load 0:0.0 expect 0\n"
    ++ codes "core 1 load 0:0.1 expect 1\n"
    ++ codes "core 0 store 0.0 2a\n"
    ++ codes "core 1 load 0:0.0 expect 2a\n"

-- a single load ignores its core's copy and waiting word, and a single store leaves them as they are
abbrev pub past_what_is_held : List ℕ
past_what_is_held =
    codes "core 0 read 0 expect 0 0 0 0\n"
    ++ codes "core 0 write 0.0 2a\n"
    ++ codes "core 0 load 0.0 expect 0\n"
    ++ codes "core 0 store 0.1 2b\n"
    ++ codes "core 0 read 0 expect 2a 0 0 0\n"
    ++ codes "core 0 load 0.1 expect 2b\n"
    ++ codes "core 0 flush\n"
    ++ codes "core 1 read 0:0 expect 2a 2b 0 0\n"
