pub mod Ops
pub mod Report
pub mod Cursor
