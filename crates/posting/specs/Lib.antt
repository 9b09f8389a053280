pub mod Answer
pub mod Posting
pub mod Theorems
pub mod Bytes
