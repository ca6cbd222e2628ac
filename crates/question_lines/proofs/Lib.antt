pub mod GateNumbers
