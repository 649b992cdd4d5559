pub mod EncodedStream
pub mod Writer
pub mod WriterInside
pub mod WrittenSlices
pub mod EncodedPictures
pub mod WriterRuns
pub mod StreamPictures
pub mod PictureLists
