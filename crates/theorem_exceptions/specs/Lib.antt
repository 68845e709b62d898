-- Which plans do not pass the width check.
pub mod Exceptions
