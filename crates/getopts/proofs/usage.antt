-- Usage texts.
pub mod Rows
