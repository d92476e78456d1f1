pub mod Flattened
pub mod Judged
pub mod Letters
pub mod Modal
pub mod Named
