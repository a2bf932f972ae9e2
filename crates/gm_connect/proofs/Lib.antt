pub mod GridSteps
