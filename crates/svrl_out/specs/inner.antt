pub mod Laid
pub mod Pages
pub mod Printer
