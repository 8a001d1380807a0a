pub mod Contents
pub mod Database
pub mod DatabaseLaws
pub mod Store
