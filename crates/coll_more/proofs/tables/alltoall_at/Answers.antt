use Rattle.std.proofs.Common.{◌/◌, ◌<◌, ◌≤◌, ◌+◌, ◌*◌, ◌∙◌, ap, sym, Some, arith}
use Rattle.coll_more.specs.declared.kinds.PieceCall.{PieceCall}
use Rattle.coll_more.specs.declared.kinds.Way.{Way}
use Rattle.coll_more.proofs.TableLemmas.{high_pair, low_pair, pairs_end}
use Rattle.coll_more.proofs.tables.alltoall_at.Goals as goal

pub returns-then-pair-number : goal.returns-then-pair-number
returns-then-pair-number c =
    let low : c.args.at / 2 < c.args.rank = omega (arith, c.if-pair-number.true, c.number.ensures.gives) in
    record {
      gives = ap (λ (x : PieceCall). Some x) (c.piece.ensures.gives ∙ ap (λ (w : Way). record { peer = c.args.at / 2; way = w; first = c.args.at / 2 * c.args.len; len = c.args.len }) c.way_of.ensures.gives)
          ∙ sym (low_pair c.args.rank c.args.nue c.args.len c.args.at low);
    }

pub returns-then-pair-nue : goal.returns-then-pair-nue
returns-then-pair-nue c =
    let high : c.args.rank ≤ c.args.at / 2 = omega (arith, c.if-pair-number.false, c.number.ensures.gives) in
    record {
      gives = ap (λ (x : PieceCall). Some x) (c.piece-then-pair-nue.ensures.gives ∙ ap (λ (w : Way). record { peer = c.args.at / 2 + 1; way = w; first = (c.args.at / 2 + 1) * c.args.len; len = c.args.len }) c.way_of-then-pair-nue.ensures.gives)
          ∙ sym (high_pair c.args.rank c.args.nue c.args.len c.args.at high c.if-pair-nue.true);
    }

pub returns : goal.returns
returns c =
    let high : c.args.rank ≤ c.args.at / 2 = omega (arith, c.if-pair-number.false, c.number.ensures.gives) in
    record { gives = sym (pairs_end c.args.rank c.args.nue c.args.len c.args.at high c.if-pair-nue.false) }
