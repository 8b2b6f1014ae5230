pub mod InTurn
pub mod Sets
pub mod Tests
