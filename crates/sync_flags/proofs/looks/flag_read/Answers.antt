use Rattle.std.proofs.Common.{◌∙◌, ap}
use Rattle.scc_base.specs.Places.{flag_word}
use Rattle.scc_base.specs.Setups.{SetupView, host_of}
use Rattle.sync_flags.proofs.LookLemmas.{reads_there}
use Rattle.sync_flags.proofs.looks.flag_read.Goals as goal

pub returns-clause-reads : goal.returns-clause-reads
returns-clause-reads g c =
    reads_there c.look_flag.ensures.reads _ _
    (c.place-place.ensures.gives ∙ ap (λ k. flag_word k c.args.f) (c.core_of.ensures.gives ∙ ap (λ (s : SetupView). host_of s.hosts c.args.at) c.setup.ensures.gives))
    c.bit_number.ensures.gives
