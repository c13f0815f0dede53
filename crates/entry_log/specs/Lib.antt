pub mod Logged
pub mod Outcomes
pub mod Packing
pub mod Reading
pub mod Kept
pub mod Owned
