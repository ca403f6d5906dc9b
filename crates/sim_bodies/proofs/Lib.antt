pub mod FitsByTest
pub mod TestSetups
pub mod OnePoll
