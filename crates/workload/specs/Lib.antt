pub mod Example
pub mod Greatest
pub mod Measures
pub mod Nested
pub mod Settling
pub mod Statements
pub mod Weights
pub mod Worst
