pub mod Expressions
pub mod Looks
pub mod Statements
pub mod Trains
