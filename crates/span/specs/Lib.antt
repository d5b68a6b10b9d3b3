-- `span`: words over GF(2), their combinations, and the least relation among them.
pub mod Word
pub mod Combination
pub mod Relation
pub mod Basis
pub mod Elimination
pub mod Laws
pub mod Lookup
pub mod Dual
