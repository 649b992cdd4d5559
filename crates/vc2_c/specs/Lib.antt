pub mod Room
pub mod Call
