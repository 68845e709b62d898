-- What the types of a list and of a slice say of them.
pub mod Typed
