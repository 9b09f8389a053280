pub mod Facts
pub mod DirectoryTest
pub mod FieldData
pub mod Search
pub mod RecordTest
pub mod Local
pub mod Find
pub mod Theorems
