-- That each contract determines what it answers and leaves.
pub mod Determined
