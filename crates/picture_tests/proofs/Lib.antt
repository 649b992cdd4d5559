pub mod ShortRoom
