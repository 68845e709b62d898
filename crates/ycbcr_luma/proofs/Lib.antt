-- Theorems: ThereAndBack (no channel moves by more than 1), Grey (grey comes back as it was), Ends (pure blue and red meet the held 255), Readings (02's
-- numbers, and pixels that do move).
pub mod ThereAndBack
pub mod Grey
pub mod Ends
pub mod Readings
