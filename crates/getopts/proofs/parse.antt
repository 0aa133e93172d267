-- The only reading or error, what is made of a line, and what holds of matches.
pub mod Parsed
pub mod Made
pub mod Holds
