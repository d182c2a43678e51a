-- The turns of a receive, by its stages.
pub mod LookTurn
pub mod HeadTurn
pub mod LinesTurn
pub mod LinesMove
pub mod FlagTurns
pub mod RaiseTurn
pub mod RecvTurns
