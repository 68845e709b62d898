-- What is handed to a step as an array of floats.
pub mod Handed
