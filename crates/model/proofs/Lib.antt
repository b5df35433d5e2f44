-- Demand 1: what is lent stays good, call after call, and a refusal comes exactly when and in the order that is written.
pub mod Lent
pub mod Range
pub mod Rows
pub mod Buffers
pub mod Good
pub mod Service
pub mod Arrival
pub mod Ready
pub mod Calls
pub mod SignedRefusals
-- The machine over lent slices is the theory's machine by position.
pub mod Lists
pub mod Config
pub mod Shown
pub mod ShownPlaces
pub mod ShownRows
pub mod ShownBuffers
pub mod ShownService
pub mod ShownCycle
pub mod Shows
-- The ledger is the theory's machine by cycle number.
pub mod Entered
pub mod Cells
pub mod Books
-- Demand 2: machine and ledger reply alike, call after call.
pub mod Starts
pub mod Steps
pub mod Follows
pub mod Signed
pub mod Tracks
-- What the naming of banks leaves alone.
pub mod Words
-- Demand 3: two ledgers that differ in depth alone.
pub mod Deeper
pub mod Depths
pub mod SignedDepths
-- Small runs, computed.
pub mod Examples
