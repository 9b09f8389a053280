pub mod Facts
pub mod Codec
pub mod LeaderBytes
