-- What the proofs of several functions use, and the laws.
mod Copy
mod Numbers
mod Answers
mod Lent
mod Laws
mod Recovery
