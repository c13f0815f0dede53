pub mod Built
pub mod Polls
pub mod Laws
pub mod Yields
pub mod Moving
pub mod UnderWay
