pub mod RecordedCode
pub mod Settling
pub mod Trimming
