pub mod Opening
pub mod DeskOpener
pub mod Files
