-- The laws of a load, and why it is corrected; the lowest file first. A crate above sees those that are public.
mod Draws
mod Load
mod Apart
mod Rounds
pub mod Filling
mod Corrected
mod Examples
mod Main
