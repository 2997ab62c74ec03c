pub mod Numbers
pub mod Next
