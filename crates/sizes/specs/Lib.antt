pub mod NextSize
