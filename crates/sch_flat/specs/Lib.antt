pub mod FlatDocument
pub mod FlatSize
pub mod SchemaParts
pub mod inner
