pub mod Transfers
pub mod Demands
pub mod Promises
pub mod Sequences
pub mod Layout
pub mod Claims
