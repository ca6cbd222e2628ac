pub mod Agreement
pub mod GateLaws
