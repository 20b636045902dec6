pub mod Items
pub mod Commands
pub mod Tests
pub mod Effects
pub mod Refusals
pub mod Steps
pub mod WellFormed
pub mod Views
