pub mod Asked
pub mod Same
pub mod Sized
