pub mod Found
pub mod Lending
pub mod Seeing
