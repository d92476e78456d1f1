pub mod Answer
pub mod Correct
pub mod Faults
pub mod Judging
pub mod Law
pub mod Sizes
