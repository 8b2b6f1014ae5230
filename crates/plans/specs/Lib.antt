pub mod Drafts
pub mod Entries
pub mod Expectations
pub mod Lines
pub mod Numerals
pub mod Parsed
pub mod Settings
pub mod Statements
