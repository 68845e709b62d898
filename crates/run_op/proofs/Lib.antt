-- Theorems: Even (an op leaves equally long channels equally long), Joining (it does to joined channels what it does to each),
-- OwnSteps (the six own steps are one definition), Determined.
pub mod Even
pub mod Joining
pub mod OwnSteps
pub mod Determined
-- the ops that change nothing
pub mod Untouched
