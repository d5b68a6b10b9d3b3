-- The laws of the crate, the lowest file first; a crate above sees those that are public.
pub mod Word
pub mod Masks
pub mod Stored
pub mod Together
pub mod Combination
pub mod Relation
mod Elimination
pub mod Basis
pub mod Dimension
pub mod Linear
pub mod Lookups
pub mod Duals
