-- Words that private contracts and proofs alone cite: no public statement rests on them.
pub mod Copying
pub mod Sandboxes
pub mod Turns
pub mod Setting
