-- What runs of events of one rank come to: of a rank at rest, of a rank in no call.
pub mod IdleLaws
pub mod RestLaw
