pub mod Weaving
pub mod WeaveRuns
pub mod WeaveAnswers
