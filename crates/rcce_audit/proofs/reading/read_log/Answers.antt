use Rattle.std.proofs.Common.{◌∙◌, ◌≤◌, Ok, sym, ap, arith, length, map}
use Rattle.std.proofs.lemmas.List.{length-map}
use Rattle.rcce_audit.proofs.ReadingLemmas.{few_parts, log_told, some_part, text_back}
use Rattle.rcce_audit.proofs.reading.read_log.Goals as goal
use Rattle.rcce_audit.specs.Logs.{most_log_bytes}

pub read_parts-requires-clause-some : goal.read_parts-requires-clause-some
read_parts-requires-clause-some c =
    omega (arith, some_part c.args.bytes.now _ c.in_ok-parts.ensures, length-map c.in_ok-parts.parts.items (λ part. part.now), ap length c.as_slice.ensures.value)

pub read_parts-requires-clause-few : goal.read_parts-requires-clause-few
read_parts-requires-clause-few c =
    omega (arith, few_parts c.args.bytes.now _ c.in_ok-parts.ensures, length-map c.in_ok-parts.parts.items (λ part. part.now), ap length c.as_slice.ensures.value, c.if-bytes-gt-MOST_LOG_BYTES.false)

pub new-requires : goal.new-requires
new-requires c =
    let within : length c.args.bytes.now ≤ most_log_bytes = omega (arith, c.if-bytes-gt-MOST_LOG_BYTES.false) in
    let parts = map (λ part. part.now) c.as_slice.result.now in
    let same = ap (map (λ part. part.now)) c.as_slice.ensures.value ∙ c.in_ok-parts.ensures in
    (text_back c.args.bytes.now _ (log_told c.args.bytes.now parts _ within same c.in-Ok.ensures)).1

pub returns-in-Ok : goal.returns-in-Ok
returns-in-Ok c =
    let within : length c.args.bytes.now ≤ most_log_bytes = omega (arith, c.if-bytes-gt-MOST_LOG_BYTES.false) in
    let parts = map (λ part. part.now) c.as_slice.result.now in
    let same = ap (map (λ part. part.now)) c.as_slice.ensures.value ∙ c.in_ok-parts.ensures in
    log_told c.args.bytes.now parts _ within same c.in-Ok.ensures ∙ ap Ok (sym c.new.ensures)
