pub mod TestLaws
pub mod FirstLaws
pub mod BoundLaws
pub mod BitLaws
pub mod ByteLaws
pub mod DigitLaws
pub mod Claims
mod Examples
