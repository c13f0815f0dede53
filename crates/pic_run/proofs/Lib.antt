pub mod Calls
pub mod Closing
pub mod Handing
pub mod Opening
