pub mod Leading
pub mod Ends
pub mod Keeping
pub mod OneChain
pub mod Named
pub mod Refused
