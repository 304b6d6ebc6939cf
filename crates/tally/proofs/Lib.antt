-- What is known of a file's events.
pub mod Events
