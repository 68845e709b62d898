-- A run by strips: what each call makes of the state and of the lent samples; and sequences of calls.
pub mod Machine
pub mod Calls
