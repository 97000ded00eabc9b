pub mod VisitTrials
pub mod Visiting
