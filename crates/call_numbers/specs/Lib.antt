pub mod Numbers
pub mod CallPlaces
pub mod NumberLaws
