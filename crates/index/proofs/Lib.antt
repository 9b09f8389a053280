pub mod Shapes
pub mod Nodes
pub mod Finding
pub mod Trees
pub mod Looking
pub mod Reading
