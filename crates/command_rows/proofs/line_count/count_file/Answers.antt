use Rattle.std.proofs.Common.{inl, ap, refl, ◌∙◌}
use Rattle.outcomes.specs.Coming.{Comes}
use Rattle.outcomes.specs.Outcomes.{run_outcome}
use Rattle.command_rows.specs.LineCount.{count_bytes_plan, count_ran, lines, lines_in}
use Rattle.command_rows.proofs.line_count.count_file.Goals as goal

pub returns-in-Ok : goal.returns-in-Ok
returns-in-Ok g c =
    let files = g.F.Files.seen c.read_file.new.files in
    let came : Comes lines.name (count_bytes_plan c.in-Ok.bytes) files files (run_outcome (count_ran c.lines_in.result)) =
    (refl, inl (ap (λ n. run_outcome (count_ran n)) (c.lines_in.ensures ∙ ap lines_in c.as_slice.ensures))) in
    c.in-Ok.ensures.reads lines.name count_bytes_plan _ _ came

pub returns-in-Err : goal.returns-in-Err
returns-in-Err g c = c.in-Err.ensures.reads lines.name count_bytes_plan
