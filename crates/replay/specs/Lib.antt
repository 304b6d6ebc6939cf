-- `Replay` has the meaning of a run file, `Files` what is proved of every one.
pub mod Replay
pub mod Told
pub mod Files
