-- Collective calls: primitive by primitive, and what they give each member of a group.
pub mod CollectivePaths
pub mod CollectiveGroups
pub mod CollectiveFits
pub mod BroadcastLaws
pub mod ReductionPaths
pub mod ReductionLaws
pub mod UntouchedLaws
pub mod CollectiveLaws
