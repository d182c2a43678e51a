use Rattle.std.proofs.Common.{sym, ◌∙◌}
use Rattle.rcce_ue.proofs.SureTurns.{moves_fall, moves_then, sure_falls, sure_on}
use Rattle.rcce_ue.proofs.ues.Ue.go_on.Goals as goal

pub turns-smaller-then-not-move_lines : goal.turns-smaller-then-not-move_lines
turns-smaller-then-not-move_lines g c =
    let same = c.move_lines.ensures.stays c.if-not-move_lines.true in
    sure_falls c.turns.self c.move_lines.new.self c.turn.new.self (g.P.Port.sight c.turns.port) (g.P.Port.sight c.move_lines.new.port) (g.P.Port.sight c.turn.new.port) c.turn.result
    same.0 same.1 c.turns.invariant.tied (sym c.is_sure.ensures ∙ c.turns-test.true) c.turn.ensures.turned

pub turns-preserved-then-not-move_lines : goal.turns-preserved-then-not-move_lines
turns-preserved-then-not-move_lines g c =
    let same = c.move_lines.ensures.stays c.if-not-move_lines.true in
    record {
      tied = c.turn.ensures.tied;
      moves = λ first s before.
          sure_on first c.turns.self c.move_lines.new.self c.turn.new.self s (g.P.Port.sight c.turns.port) (g.P.Port.sight c.move_lines.new.port) (g.P.Port.sight c.turn.new.port) c.turn.result
          same.0 same.1 c.turns.invariant.tied (sym c.is_sure.ensures ∙ c.turns-test.true) c.turn.ensures.turned (c.turns.invariant.moves first s before);
    }

pub turns-smaller : goal.turns-smaller
turns-smaller g c =
    moves_fall c.turns.self (g.P.Port.sight c.turns.port) c.move_lines.new.self (g.P.Port.sight c.move_lines.new.port) (c.move_lines.ensures.moves c.if-not-move_lines.false).moves

pub turns-preserved : goal.turns-preserved
turns-preserved g c =
    let moved = c.move_lines.ensures.moves c.if-not-move_lines.false in
    record {
      tied = moved.tied;
      moves = λ first s before.
          moves_then first c.turns.self s (g.P.Port.sight c.turns.port) (c.turns.invariant.moves first s before) c.turns.invariant.tied c.move_lines.new.self (g.P.Port.sight c.move_lines.new.port) moved.moves;
    }

-- that no such turn comes next is answered by name, so that a stretch which gives up sooner is refused at once
pub returns-clause-whole : goal.returns-clause-whole
returns-clause-whole g c = sym c.is_sure.ensures ∙ c.turns-test.false
