-- Lent byte channels, three in and three out, and a conversion of each pixel.
pub mod Planes
