pub mod Kepts
pub mod Founds
pub mod Lines
pub mod Overs
