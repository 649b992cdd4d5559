pub mod Factors
pub mod QuantLaws
pub mod Weights
pub mod MatrixInside
