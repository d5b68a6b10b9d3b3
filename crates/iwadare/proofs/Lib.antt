-- The laws of coder and decoder of these stations, and why they together have the properties that 02 asks for; the
-- lowest file first. A crate above sees those that are public.
pub mod Refusals
pub mod Coder
pub mod Decoder
mod Calls
mod Words
pub mod Runs
mod Taps
mod Formed
mod Delivery
mod Register
mod Patterns
mod Settled
mod Errors
mod Guard
mod Correction
mod Recovery
mod Computed
mod Sharp
mod Witness
mod Main
