pub mod Read
pub mod Into
pub mod inside
