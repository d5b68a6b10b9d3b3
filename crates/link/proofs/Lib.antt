-- The laws of coder and decoder, and why they together have the properties that 01 asks for; the lowest file first. A
-- crate above sees those that are public.
mod Parts
pub mod Memory
pub mod Refusals
pub mod Malformed
pub mod Starting
pub mod Coder
mod Error
mod Marks
pub mod Decoder
pub mod Room
mod StepWords
pub mod Entry
pub mod Calls
pub mod Batch
mod Reached
mod Entries
mod Suitable
pub mod Origin
pub mod Step
mod Sequence
mod ParitySymbol
mod ShortGuard
pub mod Convolution
mod Register
mod Interleaving
mod Streams
mod Turn
pub mod Fill
mod Delay
mod Rows
pub mod Runs
mod OneTable
pub mod Formed
mod Seen
mod Going
mod CodeWords
pub mod Massey
mod Differences
pub mod Bursts
mod Fade
mod Recovery
mod Guard
pub mod Batches
pub mod Clean
mod Computed
pub mod Taken
pub mod Sums
mod Spread
mod Impulse
mod Reach
mod Examples
mod Sharp
mod Witness
pub mod Main
