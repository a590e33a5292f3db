pub mod Lines
pub mod Openings
