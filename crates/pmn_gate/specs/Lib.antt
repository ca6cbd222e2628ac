pub mod GateAnswers
