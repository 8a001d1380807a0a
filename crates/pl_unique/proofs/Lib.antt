pub mod Alone
pub mod Columns
pub mod Numbers
pub mod Same
pub mod RowKeys
