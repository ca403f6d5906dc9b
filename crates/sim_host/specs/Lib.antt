pub mod Hosting
pub mod HostedTogether
pub mod HostAnswers
