pub mod Counted
pub mod Lowest
pub mod Plans
pub mod Results
