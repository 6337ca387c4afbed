pub mod RowsRead
pub mod KeyslotObjects
pub mod Listed
pub mod ObjectsRead
pub mod Requiring
pub mod Namings
