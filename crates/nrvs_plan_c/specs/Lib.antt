pub mod Status
pub mod Kept
pub mod Told
pub mod Next
pub mod Direct
pub mod Range
pub mod RangeIn
pub mod inside
