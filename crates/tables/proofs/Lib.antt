-- The laws of the crate, the lowest file first; a crate above sees those that are public.
pub mod Fit
pub mod Image
pub mod Clash
mod Behind
mod ClashWords
pub mod Judging
pub mod Every
pub mod Tested
pub mod Refusal
pub mod Lent
pub mod Format
mod Progress
pub mod Reading
pub mod Written
pub mod Parsed
mod Stores
pub mod Same
mod Sorted
pub mod Writing
pub mod Triangle
pub mod Filling
pub mod Made
pub mod MadeWhole
pub mod Main
