pub mod Alike
pub mod Halves
pub mod Mappings
pub mod Runs
pub mod Marks
