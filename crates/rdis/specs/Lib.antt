pub mod Block
pub mod Levels
pub mod Cells
pub mod Chains
pub mod Facts
pub mod Packing
pub mod Theorems
pub mod Claims
