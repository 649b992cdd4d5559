pub mod Allowed
pub mod Movable
pub mod WrittenBack
pub mod Entries
pub mod Bounds
