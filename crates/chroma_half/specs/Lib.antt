-- Chroma at half width: which lengths fit, widening and narrowing of a byte line, and what these answer and leave.
pub mod Lines
pub mod Twice
pub mod Widening
pub mod Narrowing
pub mod Fitting
pub mod Steps
