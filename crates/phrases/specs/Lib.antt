pub mod Line
pub mod Adding
pub mod Opening
pub mod inside
