pub mod RawText
pub mod RawParse
pub mod Reading
pub mod PictureRuns
pub mod Waiting
pub mod PictureSoon
