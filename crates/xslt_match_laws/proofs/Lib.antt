mod Contexts
mod Fitted
mod Numbers
mod Gathering
mod Choosing
mod Ways
mod Survivors
mod Selected
pub mod Agreeing
pub mod Knowing
