pub mod FindingParts
pub mod FirstMatches
pub mod KeptReads
pub mod LetsInOrder
