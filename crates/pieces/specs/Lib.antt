-- `Stretch` says what a stretch of a file prints, `Progress` how far the printing of a file is, and `Account` what a
-- program has read and written.
pub mod Stretch
pub mod Progress
pub mod Account
