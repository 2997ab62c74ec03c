pub mod FewTables
pub mod Listed
pub mod Neighbours
pub mod Tables
