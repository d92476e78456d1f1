pub mod Code
pub mod Names
