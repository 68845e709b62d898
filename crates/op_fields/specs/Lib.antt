-- An op as its kind and the values of its fields: the one place that says which fields a kind has, in which order, and with which numbers.
pub mod Layouts
pub mod Curves
pub mod Parts
