pub mod Arrays
pub mod ArrayLaws
pub mod Readers
pub mod RecordLaws
