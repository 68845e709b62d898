-- Theorems: Rule (one level for a code; the tests agree; the line's end), Levels (the level of a code; the levels rise), Back (the way back: it is the
-- nearest code, every code returns, it is monotone), Determined.
pub mod Rule
pub mod Levels
pub mod Back
pub mod Determined
-- laws: the entries of a table that passes; the table itself, as the code has it; the two codes around a level
pub mod Places
pub mod Numbers
pub mod Around
