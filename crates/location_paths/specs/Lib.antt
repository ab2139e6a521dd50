pub mod LocationPaths
