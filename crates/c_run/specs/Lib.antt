-- A plan block run on three channels.
pub mod BlockRun
