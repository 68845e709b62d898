-- What a quick form computes and asks, and the private steps that rest on it promise each other.
pub mod Steps
