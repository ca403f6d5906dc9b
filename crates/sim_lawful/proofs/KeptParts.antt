-- What polls and starts keep of each part.
pub mod KeptProcessesPolls
pub mod KeptProcessesStart
pub mod KeptInterruptionsPolls
pub mod KeptInterruptionsStart
pub mod KeptConditionsUnits
pub mod KeptLawful
