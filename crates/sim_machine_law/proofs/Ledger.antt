-- The ledger of the resources.
pub mod TriedQueues
pub mod LedgerSteps
pub mod UsersOfDeeds
