pub mod Words
pub mod PinLaws
