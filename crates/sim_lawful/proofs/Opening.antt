-- The opening state and arrivals.
pub mod OpeningLaws
pub mod StartedPlaces
pub mod KeptOpeningParts
pub mod KeptOpening
pub mod ArrivedUnits
