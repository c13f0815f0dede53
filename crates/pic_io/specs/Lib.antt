pub mod Counts
pub mod Entries
pub mod Faults
pub mod Handed
pub mod Held
pub mod Refusals
