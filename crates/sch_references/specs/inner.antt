pub mod Firsts
pub mod KnownIds
pub mod Onto
pub mod Order
pub mod Sorting
pub mod Ways
