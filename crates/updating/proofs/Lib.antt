pub mod Plans
pub mod Results
