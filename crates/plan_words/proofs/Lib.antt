-- Theorems: Readings (texts worked out by hand), Determined.
pub mod Readings
pub mod Determined
-- a number as a word has at most nine digits; the bytes from one place up to another; an array of a function
pub mod NineDigits
pub mod Slices
pub mod FromFn
