-- Words that private contracts and proofs alone cite: no public statement rests on them.
pub mod Scanning
pub mod Blocks
pub mod Words
