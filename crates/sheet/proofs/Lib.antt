pub mod Judged
pub mod Parsed
pub mod Sizes
