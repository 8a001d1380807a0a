pub mod Files
pub mod Front
