-- What a run answers, what it leaves in the three channels and how many bad samples, and what demand 3 says of these.
pub mod Refusals
pub mod Run
pub mod Reach
pub mod Report
