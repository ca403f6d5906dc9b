-- lists
pub mod Lists
-- events, callbacks and the agenda
pub mod Events
-- units, runs, what they write and what they draw
pub mod RunLaws
-- the ledger of the resources
pub mod Ledger
-- requests, whose slot they take, and their queues
pub mod Requests
-- what containers and stores serve and give
pub mod Stocks
-- what conditions count and weigh
pub mod ConditionLaws
-- what most changes keep at once, part by part
pub mod KeptParts
-- processes that end or are interrupted, and their scopes
pub mod Processes
