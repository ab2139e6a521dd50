pub mod PlanReport
pub mod ReadBack
pub mod ReportEvents
