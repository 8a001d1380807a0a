pub mod Kept
pub mod Key
pub mod Fed
pub mod Numbered
pub mod Parts
pub mod RowKeys
pub mod RowKeyLaws
