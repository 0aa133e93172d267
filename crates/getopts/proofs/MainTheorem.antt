-- The main theorem, and lemmas for callers.
pub mod Theorem
pub mod Results
pub mod Counted
pub mod Accepted
pub mod BeforeFree
pub mod SameContent
pub mod Callers
