pub mod Prediction
pub mod Restoring
pub mod AnyWidth
pub mod Grows
