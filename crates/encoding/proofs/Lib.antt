-- Theorems: SameValues (values are the same exactly where they are equal), Equivalence and OutOfRange (both tests in words), Determined.
pub mod SameValues
pub mod Equivalence
pub mod OutOfRange
pub mod Determined
-- their laws
pub mod Deciding
mod Derived
