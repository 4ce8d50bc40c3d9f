pub mod Calls
pub mod Refusals
pub mod Demands
pub mod Promises
pub mod Theorems
pub mod Conversion
pub mod Claims
