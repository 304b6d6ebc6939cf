-- `Behind` says what a read takes of a stream, and `Written` what a stream holds after a write.
pub mod Behind
pub mod Written
