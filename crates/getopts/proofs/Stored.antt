-- What data structures store, and the values that they represent.
pub mod Texts
pub mod Signatures
pub mod Index
pub mod Matches
pub mod Occurrences
pub mod Same
