use Rattle.std.proofs.Common.{◌<◌, ◌≤◌, ap, arith, length, rules}
use Rattle.rcce_io.specs.Files.{FilesView}
use Rattle.outcomes.proofs.ReadingLemmas.{holds_short, reads_long, reads_short}
use Rattle.outcomes.proofs.reading.read_file.Goals as goal

pub returns-then-limit-as_slice-clause-reads : goal.returns-then-limit-as_slice-clause-reads
returns-then-limit-as_slice-clause-reads g c =
    let long : c.args.limit < length c.in-Ok.bytes = omega (arith, ap length c.as_slice.ensures) in
    reads_long _ _ (g.F.Files.seen c.args.files.now) _ c.in-Ok.bytes c.in-Ok.ensures long

pub returns-in-Ok-clause-reads : goal.returns-in-Ok-clause-reads
returns-in-Ok-clause-reads g c =
    let short : length c.in-Ok.bytes ≤ c.args.limit = omega (arith, ap length c.as_slice.ensures) in
    reads_short _ _ (g.F.Files.seen c.args.files.now) _ c.in-Ok.bytes c.in-Ok.ensures short

pub returns-in-Ok-clause-within : goal.returns-in-Ok-clause-within
returns-in-Ok-clause-within g c = omega (arith, ap length c.as_slice.ensures)

pub returns-in-Ok-clause-holds : goal.returns-in-Ok-clause-holds
returns-in-Ok-clause-holds g c =
    let short : length c.in-Ok.bytes ≤ c.args.limit = omega (arith, ap length c.as_slice.ensures) in
    holds_short (g.F.Files.seen c.args.files.now).told _ c.args.limit c.in-Ok.bytes short c.in-Ok.ensures.2

pub returns-in-Ok-clause-told : goal.returns-in-Ok-clause-told
returns-in-Ok-clause-told g c = ap (λ (v : FilesView). v.told) c.in-Ok.ensures.0

-- Names the goal, so that the prover rejects a wrong body at once, without a search.
pub returns-in-Err-Failed-clause-reads : goal.returns-in-Err-Failed-clause-reads
returns-in-Err-Failed-clause-reads c = search rules

pub returns-in-Err-Failed-clause-holds : goal.returns-in-Err-Failed-clause-holds
returns-in-Err-Failed-clause-holds c = search rules
