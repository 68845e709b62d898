-- The single claim on the starred cases.
pub mod Readings
