-- What a monitor's work keeps if it is known what the rank is in the midst of.
use Rattle.std.proofs.Common.{◌≡◌, ℕ, ◌<◌, ◌%◌, ◌==◌, slice_index, ap, subst}
use Rattle.scc_proto.specs.Stages.{Record}
use Rattle.rank_monitor.specs.Standing.{KeepsStage, StandsFor}
use Rattle.rank_monitor.specs.declared.works.Standing.{Standing}
use Rattle.rank_monitor.specs.declared.works.Work.{Work}

pub keeps_at : (w : Work) (rec : Record) (mid : Standing) → w.standing ≡ mid → StandsFor w rec → KeepsStage w.size w.header w.chunk w.bytes.items mid rec.stage
keeps_at w rec mid is f = subst (λ (m : Standing). KeepsStage w.size w.header w.chunk w.bytes.items m rec.stage) is f.keeps

-- a value that the rank's gather flag has
pub flag_told : (w : Work) (rec : Record) (comm value : ℕ) → comm < 16 → StandsFor w rec → (value == slice_index w.flags comm) ≡ (value == rec.flips comm % 2)
flag_told w rec comm value below f = ap (λ (n : ℕ). value == n) (f.flags comm below)
