pub mod WholeInput
pub mod WaitingTimes
pub mod HeldText
