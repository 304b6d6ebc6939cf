-- `Printings` says what each program prints of an event and of a file's end, `Print` what it prints of a file, and `Outputs` what the code hands on;
-- `Quotes` what is quoted of a listing.
pub mod Lost
pub mod Printings
pub mod Print
pub mod Outputs
pub mod Quotes
