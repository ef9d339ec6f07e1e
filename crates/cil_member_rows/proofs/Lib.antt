pub mod Common
pub mod BitLemmas
pub mod HeldLemmas
pub mod HoldLemmas
pub mod MarkLemmas
pub mod PresentLemmas
pub mod ShiftLemmas
