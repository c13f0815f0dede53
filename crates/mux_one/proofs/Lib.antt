pub mod Patients
pub mod Running
