pub mod Zero
pub mod ControlRecord
pub mod ControlMoves
pub mod Count
pub mod CrossReference
pub mod Answers
pub mod Rows
