-- Theorems: Grey (grey stays grey), Ties (which pixels have one at T.871), NoTies (none at BT.709), Readings (02's numbers), Determined.
pub mod Grey
pub mod Ties
pub mod NoTies
pub mod Readings
pub mod Determined
