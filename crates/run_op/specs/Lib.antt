-- What an op makes of the channels.
pub mod Apply
