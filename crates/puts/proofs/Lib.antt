pub mod Puts
pub mod Decimals
pub mod Digits
pub mod Theorems
