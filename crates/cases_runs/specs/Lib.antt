pub mod SmallPlan
