-- What planning answers, and when 01's table gives each refusal.
pub mod Planning
pub mod Refusals
