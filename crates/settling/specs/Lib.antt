pub mod SettleList
pub mod Theorems
