pub mod GateLaws
