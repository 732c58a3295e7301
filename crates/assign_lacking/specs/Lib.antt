pub mod ByCounts
