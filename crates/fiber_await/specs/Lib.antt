pub mod Doing
pub mod Phases
pub mod Refusing
pub mod Discharging
