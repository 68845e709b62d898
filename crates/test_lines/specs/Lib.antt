-- What the program's end rests on.
pub mod Turns
