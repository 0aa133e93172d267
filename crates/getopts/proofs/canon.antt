-- Canonical lines, and the result of `canonical`.
pub mod Lines
pub mod OneResult
