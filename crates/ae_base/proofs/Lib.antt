pub mod Interface
mod NameLaws
