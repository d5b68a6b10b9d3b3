-- `iwadare`: coder and decoder of the Iwadare-Massey stations on lent memory, and what they are together.
pub mod Memory
pub mod Refusals
pub mod Coder
pub mod Decoder
pub mod Calls
pub mod Runs
pub mod Formed
pub mod Taps
pub mod Delivery
pub mod Register
pub mod Correction
pub mod Recovery
pub mod Sharp
pub mod Witness
pub mod Main
