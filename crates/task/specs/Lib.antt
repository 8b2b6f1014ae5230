pub mod Deciding
pub mod Described
pub mod Gates
pub mod Graph
pub mod Held
pub mod Retimed
pub mod Rules
pub mod Shape
