-- `Turn` is one word's turn, `Turns` those of a file.
pub mod Turn
pub mod Turns
