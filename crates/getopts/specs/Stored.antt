-- What the code stores, and the values that it represents.

pub mod Texts
pub mod Names
pub mod Adjacent
pub mod Signatures
pub mod Groups
pub mod Table
pub mod Index
pub mod Occurrences
pub mod Matches
