pub mod Command
pub mod Room
pub mod inside
