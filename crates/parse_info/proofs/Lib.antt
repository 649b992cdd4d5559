pub mod HeadSteps
pub mod Told
pub mod WrittenHeads
