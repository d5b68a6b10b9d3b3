-- Digits and lines, then answers printed, listing in parts, the opening, and the whole listing. Lowest first.
mod Digits
pub mod Written
mod Longest
mod Answer
mod Continued
mod Loop
mod Room
mod Opens
mod Parts
