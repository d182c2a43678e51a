-- Looks at flags and changes of them at a core, in the words of sync_flags (RCCE's flags: whole words, or bits changed under
-- the test-and-set register of the core that holds them).
use Rattle.std.specs.Prelude.{ℕ, Bool}
use Rattle.scc_base.specs.Places.{FlagPlace, flag_word}
use Rattle.scc_proto.specs.Ports.{Sight}
use Rattle.put_get.specs.Cores.{Private}
use Rattle.sync_flags.specs.Looks.{ReadsFlag}
use Rattle.sync_flags.specs.Writes.{ChangesFlag, MayChangeFlag}

-- a look at a flag at a core. Seven parameters: at which core and which flag, what was found, and the rank's sight and core
-- before and after.
abbrev pub Looks : Sight → Private → ℕ → FlagPlace → Bool → Sight → Private → Type 0
Looks s c core flag found t d = ReadsFlag s c (flag_word core flag) flag.bit found t d

-- one turn changes a flag at a core. Eight parameters: at which core and which flag, the value, whether it was done, and the
-- rank's sight and core before and after.
abbrev pub Changes : Sight → Private → ℕ → FlagPlace → Bool → Bool → Sight → Private → Type 0
Changes s c core flag set done t d = ChangesFlag s c (flag_word core flag) flag.bit set done t d

-- a flag at a core may be changed
abbrev pub MayChange : Sight → Private → ℕ → FlagPlace → Bool → Type 0
MayChange s c core flag set = MayChangeFlag s c (flag_word core flag) flag.bit set
