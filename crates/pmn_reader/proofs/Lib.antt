pub mod OutputsLoop
pub mod GatesLoop
pub mod Body
pub mod ReadLaws
pub mod PartFiles
