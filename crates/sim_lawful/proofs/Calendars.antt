-- A calendar in the place of another.
pub mod ReplacedCalendars
pub mod TakenCalendars
pub mod TakenChanges
pub mod TakenOut
pub mod ConditionKinds
pub mod LeavingCalendars
