pub mod Columns
pub mod PlanLaws
pub mod SoughtSteps
