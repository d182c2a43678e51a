pub mod TableLaws
pub mod RouteLaws
pub mod SumLaws
