pub mod Numbers
pub mod InLines
pub mod Gathered
pub mod Shares
pub mod OneReading
pub mod OneScript
pub mod LinesFed
pub mod Portions
