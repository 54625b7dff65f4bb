pub mod BlockSteps
pub mod FindSteps
pub mod LawSteps
pub mod PlanSteps
pub mod RangeSteps
pub mod RootSteps
