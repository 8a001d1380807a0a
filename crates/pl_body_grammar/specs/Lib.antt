pub mod Words
pub mod Ahead
pub mod Trees
pub mod Grammar
pub mod FirstFollow
