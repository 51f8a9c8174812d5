pub mod FourSteps
