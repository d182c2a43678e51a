use Rattle.std.proofs.Common.{◌≡◌, ◌*◌, ◌-◌, ◌∙◌, ap, sym, Some, arith}
use Rattle.coll_more.specs.Tables.{shares, takes}
use Rattle.coll_more.specs.declared.kinds.PieceCall.{PieceCall}
use Rattle.coll_more.proofs.TableLemmas.{root_at, root_none}
use Rattle.coll_more.proofs.tables.spread_at.Goals as goal

pub returns-then-at-nue : goal.returns-then-at-nue
returns-then-at-nue c =
    let root : c.args.rank ≡ 0 = omega (arith, c.if-number-gt0.false, c.number.ensures.gives) in
    record { gives = ap (λ (x : PieceCall). Some x) c.front-then-at-nue.ensures.gives ∙ sym (root_at (λ p. shares p 0 (c.args.nue * c.args.len)) (takes 0 0 (c.args.nue * c.args.len)) c.args.rank (c.args.nue - 1) c.args.at root c.if-at-nue.true) }

pub returns : goal.returns
returns c =
    let root : c.args.rank ≡ 0 = omega (arith, c.if-number-gt0.false, c.number.ensures.gives) in
    record { gives = sym (root_none (λ p. shares p 0 (c.args.nue * c.args.len)) (takes 0 0 (c.args.nue * c.args.len)) c.args.rank (c.args.nue - 1) c.args.at root c.if-at-nue.false) }
