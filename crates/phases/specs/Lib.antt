pub mod Inside
pub mod Late
