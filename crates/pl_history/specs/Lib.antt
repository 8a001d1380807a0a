pub mod History
pub mod HistoryLaws
pub mod Links
pub mod Pairs
pub mod Undo
