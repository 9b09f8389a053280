pub mod Decoding
pub mod Turning
pub mod Running
pub mod Telling
