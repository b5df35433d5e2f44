pub mod Back
pub mod Numbers
