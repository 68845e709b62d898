-- Theorems: Whole (strips run as the whole), Refused (calls without an open run), Exactly (when each answer is given), Determined.
pub mod Whole
pub mod Refused
pub mod Exactly
pub mod Determined
-- the list of an open run is the one that it was opened with; joined strips
pub mod Keeping
pub mod Strips
pub mod Sums
