-- What is judged of a list before it runs, and in words when its ops are carried.
pub mod Judging
pub mod Carried
