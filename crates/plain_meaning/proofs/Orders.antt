-- Steps in any order: those of different owners do not disturb each other, and every order comes to one end.
pub mod OrderLaws
pub mod EndLaws
pub mod BarrierLaws
