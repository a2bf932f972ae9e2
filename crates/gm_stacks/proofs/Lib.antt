pub mod FewerRows
pub mod SplitSteps
pub mod ColumnSteps
pub mod FilledSteps
pub mod NumberingSteps
pub mod StandingSteps
