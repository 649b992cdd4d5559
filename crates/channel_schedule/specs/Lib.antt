pub mod Rates
pub mod Slices
pub mod Courses
pub mod Plans
pub mod Repeats
pub mod Stepping
