pub mod PartLaws
pub mod TextLaws
