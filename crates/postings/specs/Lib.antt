pub mod Segment
pub mod Rules
pub mod Calls
pub mod Theorems
pub mod Cursor
