-- Scopes that are opened and left.
pub mod PolledEnter
pub mod PolledLeave
pub mod ClosedScopes
