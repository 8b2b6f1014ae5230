pub mod Equation
pub mod Steps
pub mod Cases
