pub mod Bnf
pub mod Law
pub mod Machine
pub mod Tree
