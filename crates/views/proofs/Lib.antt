pub mod Lowest
pub mod VersionAnswers
pub mod ViewAnswers
pub mod WalkAnswers
pub mod Theorems
