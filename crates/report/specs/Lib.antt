-- `report`: the lines of the listing program, and what it prints of an input, of its opening and its parts.
pub mod Text
pub mod Writing
pub mod Listing
pub mod Opening
