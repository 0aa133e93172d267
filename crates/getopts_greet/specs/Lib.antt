pub mod Answer
pub mod Greeting
