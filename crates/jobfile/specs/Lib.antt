pub mod Bytes
pub mod JobFile
pub mod Made
