pub mod Sets
pub mod Planes
pub mod Promises
pub mod Claims
