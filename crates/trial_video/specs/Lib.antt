pub mod Video
pub mod Worst
