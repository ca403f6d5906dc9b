-- what is shown of a calendar
pub mod Shown
-- what each change of events and holders keeps
pub mod Changes
-- the entry that is due
pub mod Entries
-- conditions: members, weights, checks and values
pub mod Conditions
