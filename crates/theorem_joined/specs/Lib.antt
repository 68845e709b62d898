-- Two lists for which merging the second beforehand matters.
pub mod Pair
