-- Encodings and settings as numbers: which encoding fourteen numbers mean, in words and as it is read; and the settings of fourteen floats.
pub mod Means
pub mod Sides
pub mod Floats
