pub mod SameCalls
pub mod RightOrders
pub mod FirstFaults
pub mod FoundOrders
pub mod Copied
pub mod Counting
pub mod PlacedEvents
