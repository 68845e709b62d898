-- Theorems: Exceptions (which plans pass the width check, and with which end width), Readings (01's readings of plans).
pub mod Exceptions
pub mod Readings
-- their laws
pub mod Verdicts
pub mod Whole
