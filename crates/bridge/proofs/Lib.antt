pub mod Every
pub mod Chain
