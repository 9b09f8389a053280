pub mod Sizes
pub mod Entry
pub mod Leader
