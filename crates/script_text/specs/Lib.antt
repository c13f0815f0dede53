pub mod Faults
pub mod Lines
pub mod Scan
pub mod Spans
