pub mod Fault
pub mod Alike
pub mod Record
pub mod Kept
pub mod Extent
pub mod Line
