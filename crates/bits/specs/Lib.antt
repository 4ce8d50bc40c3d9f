pub mod Bits
pub mod Lowest
pub mod First
pub mod Ends
pub mod Claims
