use Rattle.std.specs.Prelude.{ℕ, ◌<◌, length, slice_index_or}
use Rattle.run_rows.specs.AwayPlayers.{StandsAway}
use Rattle.run_rows.proofs.ue_apart.rounds.Given as goal

abbrev pub invariant-loop : goal.invariant-loop
invariant-loop g l = record {
  some : 0 < length l.ranks;
  away : (i : ℕ) (d : _) → i < length l.ranks → let m = slice_index_or l.ranks i d in StandsAway (g.M.Player.stands m.player) l.fn.words.space.now.about l.fn.words.space.now.table m.token;
}
