-- The law of agreement: one event, a list of events, the start, and what agreement says of records and loads.
pub mod StageMoves
pub mod SingleLaw
pub mod StartLaw
pub mod EventLaw
pub mod ListLaw
pub mod AgreementLaw
pub mod SoundLaw
pub mod HonestLaw
