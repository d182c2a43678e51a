pub mod SeenLaws
pub mod RoundLaws
