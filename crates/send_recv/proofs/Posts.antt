-- The turns of a slot, which has a message that was posted.
pub mod SlotApart
pub mod SlotTurns
