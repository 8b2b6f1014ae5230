pub mod Lamp
pub mod Cases
