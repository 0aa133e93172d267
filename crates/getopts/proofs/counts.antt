-- How often the options of groups occur.
pub mod Groups
pub mod FirstFault
