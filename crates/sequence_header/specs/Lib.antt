pub mod Header
pub mod HeaderFields
pub mod Checking
pub mod Coding
pub mod Bytes
