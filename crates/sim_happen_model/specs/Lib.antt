-- what contracts see: the agenda, the table of events, and both with the time
pub mod Agendas
pub mod TableOf
pub mod Changes
pub mod HappenOf
pub mod Shows
pub mod Seen
-- conditions, and who holds which event
pub mod Holders
pub mod Joining
pub mod Gathering
pub mod Naming
pub mod Accounts
pub mod HolderChanges
-- how it is kept
pub mod Sound
