mod Digits
mod Lawful
mod Lines
mod Memory
mod Runs
