-- Tries and the ledger, from change to change.
pub mod LedgerLaws
pub mod AttemptCases
pub mod KeptTries
pub mod ServedOnce
pub mod ServedUnits
