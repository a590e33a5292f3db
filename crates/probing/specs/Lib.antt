pub mod Probe
pub mod inside
