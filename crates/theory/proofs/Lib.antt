-- Definitions.
pub mod Test
pub mod Operations
pub mod Machine
pub mod Calls
pub mod Table
pub mod Concrete
-- The machine by cycle number.
pub mod Queue
pub mod Keeps
pub mod Runs
-- The machine by position.
pub mod Turns
pub mod LiveRows
pub mod Serves
pub mod Sim
pub mod Final
-- What the crates above cite.
pub mod Port
