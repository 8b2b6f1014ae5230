pub mod Counts
pub mod Window
pub mod Jobs
pub mod System
pub mod Run
pub mod Statements
pub mod Example
pub mod Freely
