pub mod Spacers
