-- The theorem: the turns over a file print what the program prints of its replay.
pub mod Whole
