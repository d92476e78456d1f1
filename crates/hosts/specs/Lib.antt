-- The definitions that the contracts cite.
pub mod Copying
pub mod Faults
pub mod Meaning
