pub mod NameKeys
