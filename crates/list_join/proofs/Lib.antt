-- Theorems: Exactly (when joining is refused, and when not), Passing (what a join not refused passes with), Associating (three lists, and
-- the empty one), Sides (of three lists one side is refused where the other is), Determined.
pub mod Exactly
pub mod Passing
pub mod Associating
pub mod Sides
pub mod Determined
-- their laws, and those of the loop
pub mod Answered
pub mod Turn
