pub mod WithOrder
pub mod Finding
-- while updates are counted
pub mod inside
