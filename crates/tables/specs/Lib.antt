-- `tables`: what a table of the code is, when it is suitable, the bytes that say one, and the tables that we make.
pub mod Code
pub mod Clash
pub mod Table
pub mod Lent
pub mod Judging
pub mod Refusal
pub mod Laws
pub mod Format
pub mod Reading
pub mod Written
pub mod Writing
pub mod Made
pub mod Triangle
pub mod Main
