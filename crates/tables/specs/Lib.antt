pub mod Build
pub mod Into
pub mod inside
