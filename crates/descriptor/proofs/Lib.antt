pub mod Intos
pub mod Steps
pub mod Turns
