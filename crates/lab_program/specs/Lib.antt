pub mod Program
pub mod History
