use Rattle.std.proofs.Common.{ℕ, [], ◌∷◌, length, length-append, sym, ap, ◌∙◌, arith}
use Rattle.coll_more.specs.Tables.{src_len_of}
use Rattle.run_rows.proofs.coll_runs.team_of.Goals as goal

pub join-requires-clause-src : goal.join-requires-clause-src
join-requires-clause-src g c =
    c.in_ok-src.ensures.long ∙ ap (λ (r : ℕ). src_len_of c.args.more r c.args.nue c.args.len) (c.of.ensures.gives ∙ sym c.loop-number.invariant.each)

pub loop-number-preserved : goal.loop-number-preserved
loop-number-preserved g c =
    let has = c.in_ok-join.ensures.joined in
    let each = c.loop-number.invariant.each in
    record {
      each = omega (arith, ap length has.is, length-append c.loop-number.team.items (has.joined ∷ []), each);
      fresh = has.fresh;
    }
