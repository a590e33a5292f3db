pub mod Endings
pub mod Into
