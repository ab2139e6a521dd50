pub mod TypedCode
