pub mod KeyLists
pub mod Hashes
pub mod KeyTables
pub mod ShortWalks
