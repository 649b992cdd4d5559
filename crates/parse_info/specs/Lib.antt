pub mod Code
pub mod Head
pub mod Chain
