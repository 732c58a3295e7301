pub mod InSchedule
pub mod Queries
