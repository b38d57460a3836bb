pub mod Bytes
pub mod Packing
pub mod Low
pub mod Ext
pub mod ListingPackedLemmas
pub mod CaseNumber
pub mod RowText
