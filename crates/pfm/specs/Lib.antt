-- Portable float maps: the header as it is read, and samples as bytes; and the bytes of a portable pixmap.
pub mod Header
pub mod Samples
pub mod Pixmap
