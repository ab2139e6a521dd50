pub mod EditsMove
