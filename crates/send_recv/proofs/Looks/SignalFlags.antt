-- Changes of the flag of a signal at a core, by the layout.
use Rattle.std.proofs.Common.{ℕ, Bool}
use Rattle.scc_base.specs.Places.{flag_word}
use Rattle.scc_base.specs.Layouts.{signal_at}
use Rattle.scc_base.specs.declared.layouts.Layout.{Layout}
use Rattle.scc_base.specs.declared.signals.Signal.{Signal}
use Rattle.scc_proto.specs.Ports.{Sight}
use Rattle.put_get.specs.Cores.{Private}
use Rattle.sync_flags.specs.Writes.{ChangesFlag, MayChangeFlag}

-- one turn changes the flag of a signal that a rank raises, at a core
abbrev pub ChangesBy : Layout → Sight → Private → ℕ → Signal → ℕ → Bool → Bool → Sight → Private → Type 0
ChangesBy layout s c core signal by set done t d = ChangesFlag s c (flag_word core (signal_at layout signal by)) (signal_at layout signal by).bit set done t d

-- it may be changed
abbrev pub MayChangeBy : Layout → Sight → Private → ℕ → Signal → ℕ → Bool → Type 0
MayChangeBy layout s c core signal by set = MayChangeFlag s c (flag_word core (signal_at layout signal by)) (signal_at layout signal by).bit set
