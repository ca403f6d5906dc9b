-- What a turn does.
pub mod Answered
pub mod Asking
pub mod Leaving
pub mod Doing
pub mod Taking
