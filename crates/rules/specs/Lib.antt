-- The definitions that the contracts cite.
pub mod Answers
pub mod Delivered
pub mod Law
