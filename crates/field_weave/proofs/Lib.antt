pub mod Tables
pub mod LineTurns
pub mod WeaveLaws
pub mod Weaves
pub mod Answers
pub mod WrittenLines
