pub mod Order
pub mod Search
pub mod InOrder
