-- How many samples went bad, and what an op's own step reports.
pub mod Bad
