pub mod PathLaws
pub mod LoggerLaws
pub mod LogEnds
pub mod RoomLaws
pub mod FreshLaws
pub mod RunLeaves
