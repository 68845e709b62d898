-- Theorems: Putting (bytes that are put one behind the other are put as one), Within (a text at the front), Determined.
pub mod Putting
pub mod Within
pub mod Determined
