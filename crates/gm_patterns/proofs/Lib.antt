pub mod ChildSteps
pub mod LeastSteps
mod PastSteps
