pub mod OneToOne
pub mod Split
pub mod Steps
pub mod Examples
