pub mod Chosen
pub mod Greatest
pub mod Known
pub mod Passed
pub mod Sought
pub mod Summed
