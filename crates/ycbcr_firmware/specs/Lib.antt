-- Which weights a camera's firmware means, and what a conversion answers that names one.
pub mod Firmware
pub mod Conversion
