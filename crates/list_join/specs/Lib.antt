-- What joining answers and gives, and in words when it is refused.
pub mod Join
pub mod Refusals
