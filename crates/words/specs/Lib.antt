pub mod Stored
pub mod SetBits
pub mod Claims
