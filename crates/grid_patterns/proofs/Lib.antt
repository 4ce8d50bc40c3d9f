pub mod FlipLaws
pub mod FillLaws
pub mod InvertLaws
pub mod Claims
