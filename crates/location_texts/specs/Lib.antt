pub mod LocationSteps
pub mod StepTokens
pub mod StepTypes
pub mod Laws
