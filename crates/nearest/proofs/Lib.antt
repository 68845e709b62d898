-- Theorems: Exactly (one whole number is nearest, and the byte is that one held), HeldFirst (holding first changes no byte), Distance (how far it lies).
pub mod Exactly
pub mod HeldFirst
pub mod Distance
