-- That each exported contract determines its answer.
pub mod Determined
