pub mod Demands
pub mod Same
