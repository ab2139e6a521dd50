pub mod ApartLemmas
pub mod LocationLemmas
pub mod PlaceLemmas
pub mod StepLemmas
