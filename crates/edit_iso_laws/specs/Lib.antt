pub mod PathsMove
pub mod CommandsMove
