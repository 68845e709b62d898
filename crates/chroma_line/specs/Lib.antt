-- A line with chroma at half width: its lengths, and its chroma widened.
pub mod Line
