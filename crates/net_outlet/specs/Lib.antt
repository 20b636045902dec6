pub mod OutletCalls
pub mod Queues
pub mod Outlets
