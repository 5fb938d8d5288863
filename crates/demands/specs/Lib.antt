pub mod Outcomes
pub mod WorkedCalls
