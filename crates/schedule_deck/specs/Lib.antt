pub mod Report
pub mod Reading
