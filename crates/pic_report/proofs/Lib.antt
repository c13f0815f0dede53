pub mod Putting
pub mod Parts
pub mod Names
pub mod Found
pub mod Taking
pub mod Viewing
pub mod Told
pub mod Reports
