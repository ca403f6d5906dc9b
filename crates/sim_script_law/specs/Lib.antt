pub mod ScriptMembers
pub mod Walks
pub mod Framing
pub mod SoundScripts
pub mod Ready
pub mod ScenarioRuns
