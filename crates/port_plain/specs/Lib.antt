pub mod Shown
pub mod Paired
pub mod Stored
pub mod Closing
pub mod Handed
