-- The definitions that the contracts cite.
pub mod Held
pub mod Items
pub mod Law
pub mod Lines
pub mod Readable
