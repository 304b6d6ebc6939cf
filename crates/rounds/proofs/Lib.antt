-- The dispatcher: its turns and its loop, as its code's proofs take them; that it makes steps and nothing else; and what follows of all words.
pub mod Turns
pub mod Loop
pub mod Steps
pub mod Untouched
pub mod Nobody
pub mod GoesOn
