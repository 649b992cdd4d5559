pub mod Bits
pub mod States
pub mod RowTurns
pub mod Farthest
pub mod Fits
pub mod Whole
pub mod WorkedVideo
