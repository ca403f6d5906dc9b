pub mod Counting
pub mod Rounds
pub mod RunOfScenario
pub mod Sessions
pub mod Throughout
