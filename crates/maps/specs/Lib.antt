pub mod Alike
pub mod Map
pub mod Place
pub mod Walk
pub mod inside
