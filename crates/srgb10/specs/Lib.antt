-- `Curve` is the rule, for a code and over the whole table; `Codes` the level that it gives a code, and the way back.
pub mod Curve
pub mod Codes
