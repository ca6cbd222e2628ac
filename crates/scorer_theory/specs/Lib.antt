pub mod Rules
pub mod Scores
pub mod NetworkGames
pub mod Frames
pub mod Games
pub mod Highest
