pub mod LiveReads
