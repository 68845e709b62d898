-- Theorems: Exactly (the reading finds the encoding that fourteen numbers mean, and none where they mean none), Determined.
pub mod Exactly
pub mod Determined
-- laws of the tables, and of a sign
pub mod Tables
pub mod Naturals
