pub mod Tables
pub mod Reciprocals
pub mod QuantLemmas
pub mod Quantisers
