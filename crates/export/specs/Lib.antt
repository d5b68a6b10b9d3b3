-- `export`: a table and the answers as numbers, what the functions that C calls promise, and what that tells a caller.
pub mod Numbers
pub mod Answers
pub mod Promises
pub mod Laws
pub mod Recovery
