pub mod Closing
pub mod Moves
pub mod Placing
pub mod Search
pub mod Spots
pub mod Statements
pub mod Tables
