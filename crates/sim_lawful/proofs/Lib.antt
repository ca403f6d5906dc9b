-- the opening state and arrivals
pub mod Opening
-- what polls and starts keep of each part
pub mod KeptParts
-- tries and the ledger, from change to change
pub mod Ledger
-- a calendar in the place of another
pub mod Calendars
-- other facilities in the place of a state's
pub mod Facilities
-- operations on events and processes, and what the active process is told
pub mod Polls
-- conditions that are made, checked and built
pub mod ConditionLaws
-- tries, requests, puts and gets
pub mod Waiting
-- scopes that are opened and left
pub mod Scopes
-- a process that is dropped
pub mod Drops
-- callbacks that are called
pub mod Calls
-- the facts beside, from change to change
pub mod Following
-- lawful states: steps and runs
pub mod Units
-- events that are kept
pub mod Reached
