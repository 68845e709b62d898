-- Theorems: Running (a joined list runs as one list and then the other), Merging (the first list merged before, or not), Regrouping (the second).
pub mod Running
pub mod Merging
pub mod Regrouping
