-- Descriptions in rows.
pub mod Breakings
pub mod Words
pub mod Rows
pub mod Lines
