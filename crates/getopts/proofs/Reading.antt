-- How words are read: the step-by-step reader `read`, and properties of all readings.
pub mod Reader
pub mod Texts
pub mod Steps
pub mod Readings
pub mod Positions
pub mod Laws
