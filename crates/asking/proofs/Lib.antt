pub mod Lowest
pub mod ListAnswers
pub mod AllFields
pub mod StateAnswers
pub mod RecordTestAnswers
pub mod Theorems
