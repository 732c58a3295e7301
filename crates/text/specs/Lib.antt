pub mod Class
pub mod Reading
pub mod Writing
pub mod Room
