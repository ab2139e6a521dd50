pub mod Includes
pub mod Parts
pub mod Taking
pub mod Included
pub mod Ends
pub mod inner
