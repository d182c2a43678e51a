use Rattle.std.proofs.Common.{◌≡◌, ◌<◌, ◌≤◌, ◌∙◌, ℕ, List, ap, sym, subst, length, get_or, arith, zero-add}
use Rattle.std.specs.List.{range_with_len}
use Rattle.std.proofs.lemmas.List.FromFn.{get_or-range_with_len, length-range_with_len}
use Rattle.rcce_io.specs.Sending.{CutShort, with_text}
use Rattle.rcce_io.proofs.SendingLemmas.{cut_within, joined-all, joined-more, joined-parts, sends_err, whole_within}
use Rattle.coll_run.specs.Teams.{MemberView}
use Rattle.coll_program.specs.Pieces.{dst_at}
use Rattle.coll_program.specs.Texts.{got_line, shown_of}
use Rattle.coll_program.proofs.TextLemmas.{dst_is, shown_some}
use Rattle.coll_program.proofs.lines.write_lines.Goals as goal

rank_at : (n k : ℕ) → k < n → get_or (range_with_len 0 n) k 0 ≡ k
rank_at n k low = get_or-range_with_len 0 n k 0 low ∙ zero-add k

pub returns-in_err-write_line : goal.returns-in_err-write_line
returns-in_err-write_line g c =
    let line : ℕ → List ℕ = λ rank. got_line c.args.more rank (dst_at c.args.team.now rank) in
    let low : c.loop-number.number < shown_of c.args.more c.args.nue = omega (arith, c.loop-number-test.true, c.shown-number-end.ensures.gives) in
    let within : c.loop-number.number < length (range_with_len 0 (shown_of c.args.more c.args.nue)) = omega (arith, length-range_with_len 0 (shown_of c.args.more c.args.nue), low) in
    let below : c.loop-number.number < length c.args.team.now = omega (arith, shown_some c.args.more c.args.nue c.loop-number.number c.requires.some low, c.requires.each) in
    let same : got_line c.args.more c.loop-number.number c.dst.result.now ≡ got_line c.args.more c.loop-number.number (dst_at c.args.team.now c.loop-number.number) =
    ap (got_line c.args.more c.loop-number.number) (c.dst.ensures.gives ∙ ap (λ (m : MemberView). m.dst) c.index-team-number.is ∙ sym (dst_is c.args.team.now c.loop-number.number c.index-team-number.result below)) in
    sends_err _ _ _ _ c.from_residual.ensures.0 (
    cut_within (g.S.Sink.seen c.args.sink.now) (g.S.Sink.seen c.loop-number.sink) (g.S.Sink.seen c.write_line.new.sink) _ (line c.loop-number.number) _ _
    (rw (rank_at (shown_of c.args.more c.args.nue) c.loop-number.number low) at (joined-parts line (range_with_len 0 (shown_of c.args.more c.args.nue)) c.loop-number.number 0 within)) c.loop-number.invariant
    (subst (λ (text : List ℕ). CutShort text (g.S.Sink.seen c.loop-number.sink) (g.S.Sink.seen c.write_line.new.sink)) same c.in_err-write_line.ensures))

pub loop-number-preserved : goal.loop-number-preserved
loop-number-preserved g c =
    let line : ℕ → List ℕ = λ rank. got_line c.args.more rank (dst_at c.args.team.now rank) in
    let low : c.loop-number.number < shown_of c.args.more c.args.nue = omega (arith, c.loop-number-test.true, c.shown-number-end.ensures.gives) in
    let within : c.loop-number.number < length (range_with_len 0 (shown_of c.args.more c.args.nue)) = omega (arith, length-range_with_len 0 (shown_of c.args.more c.args.nue), low) in
    let below : c.loop-number.number < length c.args.team.now = omega (arith, shown_some c.args.more c.args.nue c.loop-number.number c.requires.some low, c.requires.each) in
    let same : got_line c.args.more c.loop-number.number c.dst.result.now ≡ got_line c.args.more c.loop-number.number (dst_at c.args.team.now c.loop-number.number) =
    ap (got_line c.args.more c.loop-number.number) (c.dst.ensures.gives ∙ ap (λ (m : MemberView). m.dst) c.index-team-number.is ∙ sym (dst_is c.args.team.now c.loop-number.number c.index-team-number.result below)) in
    whole_within (g.S.Sink.seen c.args.sink.now) (g.S.Sink.seen c.loop-number.sink) (g.S.Sink.seen c.write_line.new.sink) _ (line c.loop-number.number) _
    (rw (rank_at (shown_of c.args.more c.args.nue) c.loop-number.number low) at (joined-more line (range_with_len 0 (shown_of c.args.more c.args.nue)) c.loop-number.number 0 within)) c.loop-number.invariant
    (c.in_ok-write_line.ensures ∙ ap (λ (text : List ℕ). with_text text (g.S.Sink.seen c.loop-number.sink)) same)

pub returns : goal.returns
returns g c =
    let line : ℕ → List ℕ = λ rank. got_line c.args.more rank (dst_at c.args.team.now rank) in
    let all : length (range_with_len 0 (shown_of c.args.more c.args.nue)) ≤ c.loop-number.number =
    omega (arith, length-range_with_len 0 (shown_of c.args.more c.args.nue), c.loop-number-test.false, c.shown-number-end.ensures.gives) in
    c.loop-number.invariant
    ∙ ap (λ (text : List ℕ). with_text text (g.S.Sink.seen c.args.sink.now)) (joined-all line (range_with_len 0 (shown_of c.args.more c.args.nue)) c.loop-number.number all)
