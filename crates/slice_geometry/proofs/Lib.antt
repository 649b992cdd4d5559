pub mod Quotients
pub mod Shares
pub mod Places
pub mod Lengths
pub mod UnitLemmas
pub mod NumberedBands
pub mod RectsInBands
pub mod LengthBits
