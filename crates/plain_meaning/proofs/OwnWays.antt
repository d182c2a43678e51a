-- A rank's own way through its program: the calls that it makes, what it has done when it stops, and how its primitives are
-- counted.
pub mod OwnWayLaws
pub mod ProgramLaws
pub mod CallListLaws
pub mod CameDid
pub mod DoneLaws
pub mod RepeatCounts
pub mod OperationCounts
