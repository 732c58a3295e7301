pub mod Sums
pub mod Heads
pub mod Giving
pub mod GaveOut
pub mod Serving
pub mod Whose
