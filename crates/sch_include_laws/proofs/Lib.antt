pub mod Copying
pub mod Walking
pub mod Wholes
