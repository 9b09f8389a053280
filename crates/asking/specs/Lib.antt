pub mod Listing
pub mod State
pub mod RecordTest
pub mod Inner
pub mod Theorems
