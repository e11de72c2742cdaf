mod Worked
pub mod LimitLaws
pub mod WordLaws
pub mod PlanLaws
pub mod TextLaws
pub mod MeaningLaws
