pub mod LooseValues
pub mod HeldValues
