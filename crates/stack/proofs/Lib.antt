-- Lemmas about stacks. Other crates may cite those of Counts and Uses.
pub mod Counts
pub mod Uses
mod Tops
