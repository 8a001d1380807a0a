pub mod Words
pub mod Trees
pub mod Grammar
pub mod FirstFollow
pub mod Finished
pub mod LeftOut
pub mod Spells
pub mod Computed
