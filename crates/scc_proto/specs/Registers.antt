-- The test-and-set registers, and the words of bit flags that are changed under them (SCC External
-- Architecture Specification; one-bit flags under registers as in RCCE).
use Rattle.std.specs.Prelude.{◌≡◌, ℕ, ◌<◌, ◌≢◌, true, Option, Some, None, is_some}
use Rattle.scc_base.specs.Layouts.{signal_word}
use Rattle.scc_base.specs.Setups.{SetupView}
use Rattle.scc_base.specs.declared.layouts.Layout.{Layout}
use Rattle.scc_base.specs.declared.layouts.Layout.TheVariants.{LineFlags, BitFlags}
use Rattle.scc_base.specs.declared.signals.Signal.{Signal}
use Rattle.scc_proto.specs.Records.{flags_in}
use Rattle.scc_proto.specs.Stages.{FlagWords, Record}
use Rattle.scc_proto.specs.Words.{Memory}

-- a register is 1 exactly where one rank holds it, and at most one does
pub data Holder (nue : ℕ) (register : ℕ) (core : ℕ) (records : ℕ → Record) : Type 0 where
  Nobody : register ≡ 0 → ((k : ℕ) → k < nue → (records k).held core ≡ None) → Holder nue register core records
  HeldBy : (holder : ℕ) → holder < nue → register ≡ 1 → is_some ((records holder).held core) ≡ true
      → ((k : ℕ) → k < nue → k ≢ holder → (records k).held core ≡ None) → Holder nue register core records

-- a flag word that a holder has noted and not stored since is what it noted
abbrev pub IsNotedWord : Option ℕ → ℕ → Type 0
IsNotedWord None word = Unit {0}
IsNotedWord (Some noted) word = word ≡ noted

-- the flag words that a holder of a register has noted and not stored since have the values noted. With line flags none is
-- noted.
abbrev pub NotedFlags : Layout → Option FlagWords → (ℕ → ℕ) → Type 0
NotedFlags layout None words = Unit {0}
NotedFlags LineFlags (Some flags) words = (signal : Signal) → flags_in signal flags ≡ None
NotedFlags BitFlags (Some flags) words = (signal : Signal) → IsNotedWord (flags_in signal flags) (words (signal_word signal))

-- the register of a core agrees with what the ranks hold, and the words of line 1 of its buffer with what they noted
-- under it
pub record RegisterAgrees (s : SetupView) (memory : Memory) (core : ℕ) (records : ℕ → Record) : Type 0 where
  pub holder : Holder s.nue (memory.register core) core records
  pub noted : (k : ℕ) → k < s.nue → NotedFlags s.layout ((records k).held core) (memory.word core 1)
