-- What byte a screen shows for a sample, and what the conversion of many answers and leaves.
pub mod Screen
pub mod Showing
