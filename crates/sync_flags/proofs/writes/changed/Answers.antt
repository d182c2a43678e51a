use Rattle.std.proofs.Common.{Bool, ◌∙◌, ap, sym}
use Rattle.sync_flags.specs.Flags.{with_bit}
use Rattle.sync_flags.proofs.BitLemmas.{set_is, clear_is}
use Rattle.sync_flags.proofs.writes.changed.Goals as goal

pub returns-then-set : goal.returns-then-set
returns-then-set c = set_is c.args.word c.args.bit c.requires ∙ ap (λ (x : Bool). with_bit c.args.bit x c.args.word) (sym c.if-set.true)

pub returns-else-set : goal.returns-else-set
returns-else-set c = clear_is c.args.word c.args.bit c.requires c.ranges.word.fits ∙ ap (λ (x : Bool). with_bit c.args.bit x c.args.word) (sym c.if-set.false)
