pub mod Rule
pub mod Numbers
pub mod Table
pub mod Claims
