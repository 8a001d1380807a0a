pub mod Trees
pub mod Grammar
pub mod FirstFollow
pub mod Nests
pub mod Spells
pub mod Finished
pub mod Follows
pub mod Smaller
