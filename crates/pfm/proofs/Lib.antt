-- Theorems: Readings (headers, and what they say), Determined.
pub mod Readings
pub mod Determined
-- one for each place; the bytes of several things in a buffer
pub mod Places
pub mod Laying
