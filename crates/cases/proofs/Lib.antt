pub mod Checked
pub mod PromiseLaws
pub mod Loops
pub mod Claims
