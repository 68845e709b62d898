-- What a plan is wanted for, in words: the words of each table, a whole number as a word, how words fill numbers line by line, what these are, and where a
-- place stands.
pub mod Words
pub mod Decimal
pub mod Filling
pub mod Wanted
pub mod Places
