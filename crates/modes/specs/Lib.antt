pub mod Answer
pub mod Declaring
pub mod Faults
pub mod Flatly
pub mod Judging
pub mod Law
pub mod ModeRules
pub mod Progress
