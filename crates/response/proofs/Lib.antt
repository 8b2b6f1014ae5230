pub mod Turns
pub mod Trails
pub mod Laws
pub mod Plans
pub mod InTime
pub mod Steps
pub mod Flash
pub mod Examples
