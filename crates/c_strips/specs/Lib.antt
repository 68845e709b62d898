-- Runs by strips on the list of a plan block: what each call answers, tells and leaves; and strips one after the other.
pub mod BlockStrips
pub mod Sequences
