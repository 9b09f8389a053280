pub mod DraftFacts
pub mod DirectoryBytes
pub mod Draftable
pub mod Trip
pub mod DraftFields
pub mod Writing
