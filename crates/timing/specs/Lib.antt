pub mod Sum
pub mod Read
pub mod Map
pub mod Walk
