pub mod Shape
pub mod Frames
pub mod Slicing
pub mod Geometry
pub mod SliceOrder
pub mod SliceLaws
pub mod UnitLengths
pub mod UnitsInside
