-- K8: the sizes of a queue's windows.
pub mod Types
pub mod KnownSizes
pub mod NextSize
