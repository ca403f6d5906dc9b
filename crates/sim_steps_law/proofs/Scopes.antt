-- Scopes that are entered and left.
pub mod EnteredScopes
pub mod AskedScopes
pub mod EnteringScopes
pub mod OpenEvents
pub mod HeldScopes
pub mod LeavingInnermost
pub mod LeavingEach
