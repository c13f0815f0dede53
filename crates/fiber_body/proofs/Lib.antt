pub mod Declared
pub mod Blocks
pub mod Newborn
pub mod Popped
mod Walking
mod Walks
mod FollowingWalks
mod WalksUnder
