mod FieldLaws
pub mod Interface
mod MessageLaws
mod PartLaws
mod PayloadLaws
mod RowLaws
mod Takes
mod Tested
mod Utf8Tests
