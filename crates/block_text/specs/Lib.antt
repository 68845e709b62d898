-- What `planlist` prints.
pub mod Words
pub mod Listing
