-- The lengths of registers: what fits, whom statements aim at, and what they begin with.
pub mod LengthLemmas
pub mod NextLengths
pub mod RoomLaws
pub mod BatchLaws
pub mod HoldLaws
pub mod AimLemmas
pub mod BegunLaws
pub mod CallableLaws
pub mod SaneLemmas
