pub mod CommandLines
pub mod Lines
pub mod Tests
