-- The width that ops lead to, what a list is, the verdict of the width check and 01's answer for it, and the ways through a list by the rows of the table.
pub mod Ends
pub mod Lists
pub mod Check
pub mod Answer
pub mod Fits
