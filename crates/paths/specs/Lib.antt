pub mod Algebra
pub mod Paths
pub mod Walks
pub mod Instances
pub mod Unions
