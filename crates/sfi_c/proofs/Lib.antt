mod Lookups
mod Prelude
mod FrontFindings
mod Bounds
mod Refused
mod Writing
