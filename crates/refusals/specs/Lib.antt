pub mod Text
pub mod Widened
