pub mod SomeInclusion
