pub mod PredictionLemmas
pub mod Bands
pub mod Rectangles
pub mod Joined
pub mod Places
pub mod Widths
pub mod WorkedBands
