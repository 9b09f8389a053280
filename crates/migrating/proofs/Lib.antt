pub mod Answers
pub mod Lowest
pub mod Today
pub mod Same
pub mod Theorems
