pub mod Program
pub mod History
pub mod Loading
