mod Words
mod Bounding
mod ChangesJoined
mod Coming
mod CountedKeys
mod Follows
mod Handed
mod Idle
mod KeyedLists
mod KeyedSame
mod Keys
pub mod Leaves
mod Life
mod Pieces
mod Played
mod Replies
mod Replying
mod RoutesLeft
mod SameRoutes
mod Saying
pub mod Standing
mod TableChanges
mod Ticking
mod Updates
