pub mod Marks
pub mod Gates
pub mod Lowest
pub mod GateAnswers
pub mod Reaching
