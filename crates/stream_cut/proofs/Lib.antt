mod Fields
mod Skimming
mod WorkedCut
mod SkimmedParts
mod ParamsRead
mod UnitsRead
mod CutPieces
mod Written
mod Cuts
mod NoLonger
pub mod SkimTables
pub mod Bridge
pub mod CutStreams
pub mod Running
mod OpeningReads
mod RestRows
mod SameRows
mod OpenTurns
mod Keeps
mod SliceBytes
mod OpenMoves
mod PictureTurns
mod SkippedTurns
mod SkimReads
mod CutTurns
mod CutUnits
mod CutOpen
mod BySequences
mod WorkedSequences
mod InTurn
