pub mod Answer
pub mod Store
pub mod Reading
pub mod Refusals
pub mod Gate
