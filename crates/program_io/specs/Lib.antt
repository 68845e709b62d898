-- What came of a program's input.
pub mod SoFar
