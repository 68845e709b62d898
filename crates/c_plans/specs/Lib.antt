-- What each function on plan blocks does.
pub mod Lists
