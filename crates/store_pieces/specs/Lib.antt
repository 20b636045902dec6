pub mod Common
pub mod Selected
pub mod Pieces
pub mod PlacedPieces
pub mod Grouped
pub mod Listing
pub mod Wording
