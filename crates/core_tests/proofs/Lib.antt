pub mod AllPens
