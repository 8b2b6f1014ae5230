pub mod Jobs
pub mod System
pub mod Statements
pub mod Example
