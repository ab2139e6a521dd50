pub mod WayDown
